-- The length of a sequence that stands below, as the value of a number token. Assumes nothing.
use Rattle.std.specs.Prelude.{Ok, Err}
use Prim.Native.Nat.{ℕ, ◌+◌, ◌*◌, ◌≤◌, ◌<◌}
use mathlib.Core.Path.{◌≡◌, refl, sym, ap, ◌∙◌, subst}
use mathlib.Core.Bool.{true}
use native.Mathlib.Omega.{arith}
use lib.ListN.{length, take, set, length-set}
use lib.Seq.{take-set-le}
use Rattle.words.specs.Reader.{Words}
use Rattle.grammar.specs.Grammar.{Grammar}
use Rattle.grammar.specs.Limits.{most_types, greatest_number}
use Rattle.grammar.specs.Kinds.{is_number, is_sequence}
use Rattle.tree.specs.Limits.{most_nodes, most_nesting}
use Rattle.tree.specs.Tree.{size, nesting_from, nesting, type_of}
use Rattle.tree.specs.Sequences.{elements}
use Rattle.meaning.specs.Limits.{most_live}
use Rattle.meaning.specs.Operations.{with_value}
use Rattle.meaning.proofs.Numbers.{number_root}
use Rattle.marks.specs.Marked.{Stands}
use Rattle.rewrite.specs.Arena.{NodesAt, Standing}
use Rattle.sequences.specs.Listed.{Listed, Walks, Made, Counts}
use Rattle.sequences.specs.declared.Walked.{Walked}
use Rattle.rewrite.proofs.Numbers.{value_written}
use Rattle.sequences.proofs.Listing.{stands_listed, listed_nodes}
use Rattle.sequences.proofs.Sealing.{ok_is, limits_live, limits_none, made_stopped}
use Rattle.sequences.proofs.Joining.{made_many, stopped_many}

-- THE VALUE WRITTEN

module _ (w : Words) (base start under besides m : ℕ) (r : Walked) (held : besides ≤ most_live) (at : NodesAt w start base m) (x : Walks w start m m r) where
  counted : {g : Grammar} {u : Words} → length g ≤ most_types → Stands g (take base w) start u → is_sequence g (type_of u) ≡ true → r.passed ≡ length (elements g u)
  counted {g} {u} few s is =
      let l : Listed g w start m (type_of u) (elements g u) = subst (λ k. Listed g w start k (type_of u) (elements g u)) (sym (at.stands g u few s)) (stands_listed w base few is s) in
      omega (arith, (x.walked g (type_of u) (elements g u) l).1, listed_nodes l)

  counted_few : {g : Grammar} {u : Words} → length g ≤ most_types → Stands g (take base w) start u → is_sequence g (type_of u) ≡ true → length (elements g u) ≤ most_nodes
  counted_few {g} {u} few s is = let l = stands_listed w base few is s in omega (arith, listed_nodes l, l.few)

  -- what is made is one node
  made_size : (scope : Words) (v : ℕ) → size (with_value scope v) ≡ 1
  unfolding with_value size
  made_size scope v = refl

  made_flat : (g : Grammar) (scope : Words) (v : ℕ) → nesting g (with_value scope v) ≤ most_nesting
  unfolding with_value nesting nesting_from
  made_flat g scope v = omega arith

  pub counted_many : {number : ℕ} → (most_nodes < under + 1) × (number ≡ 42) → Counts w w base start under besides (Err number)
  counted_many h = stopped_many w besides (λ g n t scope u few y number s is. made_many h.1 refl (omega (arith, h.0, made_size scope (100 * length (elements g u)))))

  pub counted_live : under + 1 ≤ most_nodes → {number : ℕ} → (most_live < besides + 1) × (number ≡ 44) → Counts w w base start under besides (Err number)
  counted_live h l = stopped_many w besides (λ g n t scope u few y number s is.
      let v = 100 * length (elements g u) in
      let one = made_size scope v in
      made_stopped refl (limits_live g under besides (with_value scope v) (omega arith) (made_flat g scope v) (omega (arith, l.0)) ∙ ap Err (sym l.1)))

  -- the number, which is one node, with another value
  written_there : (g : Grammar) (n t v : ℕ) (scope : Words) → is_number g t ≡ true → v ≤ greatest_number → Standing g w base n t scope → Standing g (set w (base + 1) v) base 1 t (with_value scope v)
  unfolding size
  written_there g n t v scope number small y =
      let token = number_root scope t number y.tree.typed in
      let one : n ≡ 1 = sym y.nodes ∙ ap size token.is in
      subst (λ k. Standing g (set w (base + 1) v) base k t (with_value scope v)) one (value_written g w base n t v scope token small y)

  pub counted_there : under + 1 ≤ most_nodes → besides + 1 ≤ most_live → (v : ℕ) → v ≡ 100 * r.passed → Counts w (set w (base + 1) v) base start under besides (Ok 1)
  counted_there h l v e = record {
    long = length-set w (base + 1) v;
    few = λ z. omega (arith, ok_is z);
    fits = λ z. omega (arith, ok_is z);
    meant = λ g n t scope u few y number s is.
        let same : v ≡ 100 * length (elements g u) = e ∙ ap (λ k. 100 * k) (counted few s is) in
        let small : v ≤ greatest_number = omega (arith, counted_few few s is) in
        let one = made_size scope v in
        let here : Made g w (set w (base + 1) v) base under besides t (with_value scope v) (Ok 1) = record {
          below = take-set-le base w (base + 1) v (omega arith);
          made = (limits_none g under besides (with_value scope v) (omega arith) (made_flat g scope v) (omega arith), written_there g n t v scope number small y);
        } in
        subst (λ k. Made g w (set w (base + 1) v) base under besides t (with_value scope k) (Ok 1)) same here;
  }
