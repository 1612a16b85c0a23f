-- Laws of the loop that reads, over plain variables. Assumes nothing.
use Prim.Native.Nat.{ℕ}
use mathlib.Core.Path.{◌≡◌, refl, sym, ap, ◌∙◌}
use mathlib.Core.List.{List, [], ◌∷◌, ◌++◌}
use mathlib.Core.Bool.{Bool, true, false, not}
use mathlib.Core.Option.{Option, some}
use Rattle.std.specs.Prelude.{Option as Answer}
use lib.ListN.{length, take}
use lib.Seq.{append_snoc}
use Rattle.words.specs.Reader.{Words}
use Rattle.decimal.specs.Numbers.{Bytes, Numbers, at, start, numbers, Delivery, delivered, more_after, read_over, text_of, said, Delivers}
use Rattle.decimal.specs.Input.{most_numbers}
use Rattle.decimal.specs.declared.numbers.Place.TheVariants.{Unread}
use Rattle.decimal.specs.declared.numbers.Reading.{Reading}
use Rattle.decimal.specs.declared.numbers.Piece.{Piece}
use Rattle.decimal.proofs.Reading.{stands_said}
use Rattle.decimal.proofs.Pieces.{over_more, over_last, over_failed, over_numbers}
use Rattle.bench.proofs.Answering.{whole_part}
use Rattle.bench.specs.Bench.{AnswersWhole, ReadsOnce, ReadsOn, AnswersInput}

pub once : (s : Reading) (w : Words) (got : Answer ℕ) (buffer : Bytes) (p : Piece) (w' : Words) → Delivers got (delivered (length w) (said s w) got buffer) w p w' → ReadsOnce s w p w'
once s w got buffer p w' x = record { delivery = record { got = got; buffer = buffer }; reads = x }

opposite : (a b : Bool) → not a ≡ b → a ≡ not b
opposite true b e = ap not e
opposite false b e = ap not e

-- what was delivered so far, before anything that is still to come
pub record Going (s : Reading) (w₀ : Words) (r : Reading) (w : Words) : Type 0 where
  pub past : List Delivery
  pub long : length w ≡ length w₀
  pub over : (ds : List Delivery) → read_over (length w₀) (said s w₀) (past ++ ds) ≡ read_over (length w₀) (said r w) ds

module _ (s : Reading) (w₀ : Words) where
  pub going_first : Going s w₀ s w₀
  going_first = record { past = []; long = refl; over = λ ds. refl }

  module _ (r : Reading) (w : Words) (g : Going s w₀ r w) where
    -- what came of one delivery
    came : (p : Piece) (w' : Words) (x : ReadsOnce r w p w') → said p.read w' ≡ delivered (length w₀) (said r w) x.delivery.got x.delivery.buffer
    came p w' x = stands_said _ w w' p.read x.reads.read ∙ ap (λ (n : ℕ). delivered n (said r w) x.delivery.got x.delivery.buffer) g.long

    came_more : (p : Piece) (w' : Words) (x : ReadsOnce r w p w') → more_after x.delivery.got (delivered (length w₀) (said r w) x.delivery.got x.delivery.buffer).place ≡ p.more
    came_more p w' x = ap (λ (n : ℕ). more_after x.delivery.got (delivered n (said r w) x.delivery.got x.delivery.buffer).place) (sym g.long) ∙ sym x.reads.more

    pub going_next : (p : Piece) (w' : Words) → ReadsOnce r w p w' → not p.more ≡ false → length w' ≡ length w → Going s w₀ p.read w'
    going_next p w' x m l =
        record {
          past = g.past ++ (x.delivery ∷ []);
          long = l ∙ g.long;
          over = λ ds. ap (read_over (length w₀) (said s w₀)) (append_snoc g.past x.delivery ds) ∙ g.over (x.delivery ∷ ds)
              ∙ over_more (length w₀) (said r w) x.delivery ds (came_more p w' x ∙ opposite p.more false m) ∙ ap (λ (t : Numbers). read_over (length w₀) t ds) (sym (came p w' x));
        }

    pub going_last : (p : Piece) (w' : Words) → ReadsOnce r w p w' → not p.more ≡ true → ReadsOn s w₀ p.read w'
    going_last p w' x m =
        record {
          deliveries = g.past ++ (x.delivery ∷ []);
          reads = g.over (x.delivery ∷ []) ∙ over_last (length w₀) (said r w) x.delivery (came_more p w' x ∙ opposite p.more true m) ∙ ap some (sym (came p w' x));
        }

    -- too many: it is as if a read had failed
    pub going_unread : (u : Reading) → ((ws : Words) → said u ws ≡ at Unread []) → ReadsOn s w₀ u w
    going_unread u e =
        record {
          deliveries = g.past ++ (_ ∷ []);
          reads = g.over (_ ∷ []) ∙ over_failed (length w₀) (said r w) ∙ ap some (sym (e w));
        }

-- WHAT WAS READ IS ANSWERED

same_read : (room : ℕ) (ds : List Delivery) (s : Numbers) (t : Bytes) → read_over room start ds ≡ some s → text_of ds ≡ some t → s ≡ numbers room t
same_read room ds s t e h = let i : ◌≡◌ {A = Option Numbers} (some s) (some (numbers room t)) = sym e ∙ over_numbers room ds t h in cc

pub answers_input : (s r : Reading) (w₀ w : Words) (n : ℕ) (out : Bytes) → ((ws : Words) → said s ws ≡ start) → length w₀ ≡ most_numbers → length w ≡ most_numbers → ReadsOn s w₀ r w
    → AnswersWhole (said r w) (length w) n out → AnswersInput n out
answers_input s r w₀ w n out first long₀ long x a =
    let e : read_over most_numbers start x.deliveries ≡ some (said r w) = rw (long₀, first w₀) at x.reads in
    record {
      deliveries = x.deliveries;
      found = said r w;
      reads = e;
      whole = a.whole;
      text = λ t h. a.text t (same_read most_numbers x.deliveries (said r w) t e h ∙ ap (λ (k : ℕ). numbers k t) (sym long));
    }

pub input_part : (r : ℕ) (out : Bytes) → AnswersInput r out → r ≡ length (take r out)
input_part r out x = whole_part r out x.whole
