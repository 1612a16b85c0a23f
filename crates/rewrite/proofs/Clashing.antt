-- Attempts that must fail: the matcher's loop without its variables, and the nodes that are passed over. Assumes nothing.
use Prim.Native.Nat.{ℕ, zero, suc, ◌+◌, ◌-◌, ◌*◌, ◌<◌, ◌≤◌}
use mathlib.Core.Path.{◌≡◌, refl, sym, ap, ◌∙◌}
use mathlib.Core.Bool.{Bool, true, false}
use mathlib.Core.Logic.{◌⊎◌, inl, inr, ⊎_elim}
use native.Mathlib.Omega.{arith}
use native.Mathlib.Nat.{add-zero}
use lib.ListN.{length, get_or, take, drop}
use lib.Seq.{drop-drop, take-take}
use lib.Dec.{ltb}
use borrow.Author.Tests.{ltb-true, ltb-false, eqb-true, eqb-false}
use Rattle.tables.specs.declared.types.Types.{Types}
use Rattle.words.specs.Reader.{Words}
use Rattle.meaning.specs.declared.State.{State}
use Rattle.marks.specs.Marked.{type_in, size_in}
use Rattle.marks.specs.Post.{span}
use Rattle.marks.proofs.Spans.{span_length, span_word, drop_take}
use Rattle.rewrite.specs.Vars.{Vars, Sound, bound}
use Rattle.rewrite.specs.Matching.{Match, MatchAnswers}
use Rattle.std.specs.Prelude.{Option, Some, None}
use Rattle.rewrite.specs.Candidates.{BeginsWithNode, FirstValue, FirstOf, Begun, Clashes, unspent, Passed, Next, allowed, OtherValue, NextStart, ClashesAt, NextCandidate}
use Rattle.rewrite.specs.declared.candidates.Candidate.{Candidate}
use Rattle.rewrite.specs.declared.candidates.First.{First}
use Rattle.rewrite.specs.declared.Verdict.TheVariants.{Differs}
use Rattle.rules.proofs.Laid.{no_true}
use Rattle.rewrite.proofs.Matcher.{Going, going_start, going_type, going_value, going_node, new_other, new_past, new_taken}

-- A PATTERN THAT MUST DIFFER

-- the matcher differs with these variables
abbrev Differing : Types → Words → Words → Words → ℕ → Vars → ℕ → Type 0
Differing types pairs arena part at vars live = (m : Match) × (m.verdict ≡ Differs) × MatchAnswers types pairs arena part at vars live m

-- the matcher's loop would be here with some variables, unless it has differed before
pub record Clashing (pairs part : Words) (live total i p : ℕ) : Type 0 where
  pub read : i ≤ length pairs
  pub near : p ≤ 8192 * i
  pub fits : total ≤ 6144
  so_far : (types : Types) (arena : Words) (at : ℕ) (vars : Vars) → Sound vars → ((env : Vars) × Going types pairs arena part at vars live env total i p) ⊎ Differing types pairs arena part at vars live

pub clashing_start : (pairs part : Words) (live : ℕ) → live ≤ 6144 → Clashing pairs part live live 0 0
clashing_start pairs part live h = record { read = omega arith; near = omega arith; fits = h; so_far = λ types arena at vars s. inl (vars, going_start types pairs arena part at vars live s h) }

module _ (pairs part : Words) (live total i p : ℕ) (cl : Clashing pairs part live total i p) (two : 2 ≤ length pairs - i) (more : p + 2 ≤ length part) (w : ℕ) (ew : w ≡ get_or part p 0) where
  -- a difference at this pair, wherever the matcher's loop is
  differ : ((types : Types) (arena : Words) (at : ℕ) (vars env : Vars) → Going types pairs arena part at vars live env total i p → MatchAnswers types pairs arena part at vars live (record { verdict = Differs; vars = env; live = total })) → Clashes pairs part live
  differ f = record { clash = λ types arena at vars s. ⊎_elim (λ x. (record { verdict = Differs; vars = x.0; live = total }, refl, f types arena at vars x.0 x.1)) (λ d. d) (cl.so_far types arena at vars s) }

  -- one pair on
  on : (total' p' : ℕ) → total' ≤ 6144 → p' ≤ p + 8192
      → ((types : Types) (arena : Words) (at : ℕ) (vars env : Vars) → Going types pairs arena part at vars live env total i p → ((env' : Vars) × Going types pairs arena part at vars live env' total' (i + 2) p') ⊎ Differing types pairs arena part at vars live)
      → Clashing pairs part live total' (i + 2) p'
  on total' p' h k f = record {
    read = omega (arith, cl.read);
    near = omega (arith, cl.near);
    fits = h;
    so_far = λ types arena at vars s. ⊎_elim (λ x. f types arena at vars x.0 x.1) inr (cl.so_far types arena at vars s);
  }

  module _ (not_new : get_or pairs i 0 ≡ 64 → ⊥) (not_same : get_or pairs i 0 ≡ 65 → ⊥) where
    pub clashing_type : (type_in w ≡ get_or pairs i 0 → ⊥) → Clashes pairs part live
    clashing_type h = differ (λ types arena at vars env go. going_type types pairs arena part at vars live env total i p go two more w ew not_new not_same h)

    pub clashing_value : (y : ℕ) → y ≡ get_or part (p + 1) 0 → type_in w ≡ get_or pairs i 0 → (y ≡ get_or pairs (i + 1) 0 → ⊥) → Clashes pairs part live
    clashing_value y ey et h = differ (λ types arena at vars env go. going_value types pairs arena part at vars live env total i p go two more w ew not_new not_same y ey et h)

    pub clashing_node : (y : ℕ) → y ≡ get_or part (p + 1) 0 → type_in w ≡ get_or pairs i 0 → y ≡ get_or pairs (i + 1) 0 → Clashing pairs part live total (i + 2) (p + 2)
    clashing_node y ey et ev = on total (p + 2) cl.fits (omega arith)
        (λ types arena at vars env go. inl (env, going_node types pairs arena part at vars live env total i p go two more w ew not_new not_same y ey et ev))

  module _ (is : get_or pairs i 0 ≡ 64) where
    pub clashing_other : (type_in w ≡ get_or pairs (i + 1) 0 → ⊥) → Clashes pairs part live
    clashing_other h = differ (λ types arena at vars env go. new_other types pairs arena part at vars live env total i p go two more w ew is (at + p) refl h)

    pub clashing_new : type_in w ≡ get_or pairs (i + 1) 0 → (n : ℕ) → n ≡ size_in w → n < 4096 → total + n ≤ 6144 → Clashing pairs part live (total + n) (i + 2) (p + 2 * n)
    clashing_new t n en small h = on (total + n) (p + 2 * n) h (omega arith) (λ types arena at vars env go. bind types arena at vars env go (ltb env.n 16) refl)
      where
        bind : (types : Types) (arena : Words) (at : ℕ) (vars env : Vars) → Going types pairs arena part at vars live env total i p → (b : Bool) → ltb env.n 16 ≡ b
            → ((env' : Vars) × Going types pairs arena part at vars live env' (total + n) (i + 2) (p + 2 * n)) ⊎ Differing types pairs arena part at vars live
        bind types arena at vars env go true e =
            inl (bound env (at + p), rw en (new_taken types pairs arena part at vars live env total i p go two more w ew is (at + p) refl t (omega arith) (ltb-true env.n 16 e)))
        bind types arena at vars env go false e =
            inr (
              record { verdict = Differs; vars = env; live = total },
              refl,
              new_past types pairs arena part at vars live env total i p go two more w ew is (at + p) refl t (omega arith) (ltb-false env.n 16 e),
            )

-- a pattern whose first pair is a node, at a part that begins with a node of its type
module _ (pairs part : Words) (live : ℕ) (h : live ≤ 6144) (more : 2 ≤ length part) (begins : BeginsWithNode pairs (type_in (get_or part 0 0))) where
  start : Clashing pairs part live live 0 0
  start = clashing_start pairs part live h

  is_node_lem : (n : ℕ) → 64 ≤ n → get_or pairs 0 0 ≡ n → ⊥
  is_node_lem n k e = let s : type_in (get_or part 0 0) < 64 = omega arith in omega (arith, begins.1)

  pub clashing_first : (get_or part 1 0 ≡ get_or pairs 1 0 → ⊥) → Clashes pairs part live
  clashing_first o = clashing_value pairs part live live 0 0 start (omega (arith, begins.0)) (omega (arith, more)) _ refl (is_node_lem 64 (omega arith)) (is_node_lem 65 (omega arith)) _ refl (sym begins.1) o

  pub clashing_begun : get_or part 1 0 ≡ get_or pairs 1 0 → Clashing pairs part live live 2 2
  clashing_begun e = clashing_node pairs part live live 0 0 start (omega (arith, begins.0)) (omega (arith, more)) _ refl (is_node_lem 64 (omega arith)) (is_node_lem 65 (omega arith)) _ refl (sym begins.1) e

-- THE NODES PASSED OVER

module _ (fails : ℕ → Type 0) (w : Words) (target base from last : ℕ) (left : State) where
  -- the loop is at node i
  pub record Passing (i : ℕ) (fuel : State) : Type 0 where
    passed : ℕ
    pub node_is : i ≡ from + passed
    pub inside : 0 < passed → i ≤ last
    nodes : Passed fails w target base from left passed fuel

  pub passing_start : Passing from left
  passing_start = record { passed = 0; node_is = omega arith; inside = λ h. absurd (omega arith); nodes = refl }

  module _ (i : ℕ) (fuel : State) (pa : Passing i fuel) where
    pub passing_done : (i < last → type_in (get_or w (base + 2 * i) 0) ≡ target) → Next fails w target base from last left (record { node = i; left = fuel })
    passing_done t = record { passed = pa.passed; node_is = pa.node_is; inside = λ h. omega (arith, pa.inside h, pa.node_is); nodes = pa.nodes; typed = t }

    module _ (h : i < last) (word : ℕ) (e : word ≡ get_or w (base + 2 * i) 0) where
      there : word ≡ get_or w (base + 2 * (from + pa.passed)) 0
      there = e ∙ ap (λ x. get_or w (base + 2 * x) 0) pa.node_is

      pub passing_other : (type_in word ≡ target → ⊥) → Passing (i + 1) fuel
      passing_other o = record { passed = suc pa.passed; node_is = omega (arith, pa.node_is); inside = λ k. omega arith; nodes = inl ((λ x. o (ap type_in there ∙ x)), pa.nodes) }

      pub passing_fail : type_in word ≡ target → (now : State) → fuel.attempts ≡ suc now.attempts → fails (base + 2 * i) → Passing (i + 1) now
      passing_fail t now z f = record {
        passed = suc pa.passed;
        node_is = omega (arith, pa.node_is);
        inside = λ k. omega arith;
        nodes = inr (ap type_in (sym there) ∙ t, fails_as pa.node_is f, passed_as pa.passed before pa.nodes);
      }
        where
          before : fuel ≡ unspent now
          before = ap (λ a. record { attempts = a }) z

          fails_as : {a b : ℕ} → a ≡ b → fails (base + 2 * a) → fails (base + 2 * b)
          fails_as q x = rw q at x

          passed_as : {a b : State} (k : ℕ) → a ≡ b → Passed fails w target base from left k a → Passed fails w target base from left k b
          passed_as k q x = rw q at x

  -- nodes that are passed over from there on, for another reason that is enough
  module _ (reason : ℕ → Type 0) (enough : (n : ℕ) → n < last → type_in (get_or w (base + 2 * n) 0) ≡ target → reason (base + 2 * n) → fails (base + 2 * n)) (i : ℕ) (fuel : State) (pa : Passing i fuel) where
    on_by : (k : ℕ) (now : State) → (0 < k → i + k ≤ last) → Passed reason w target base i fuel k now → Passing (i + k) now
    on_by zero now h e = let z : i + 0 ≡ i = omega arith in rw (z, e) pa
    on_by (suc k) now h (inl x) =
        let z : i + suc k ≡ i + k + 1 = omega arith in
        rw z (passing_other (i + k) now (on_by k now (λ _. omega (arith, h (omega arith))) x.1) (omega (arith, h (omega arith))) _ refl x.0)
    on_by (suc k) now h (inr x) =
        let z : i + suc k ≡ i + k + 1 = omega arith in
        let l : i + k < last = omega (arith, h (omega arith)) in
        rw z (passing_fail (i + k) (unspent now) (on_by k (unspent now) (λ _. omega arith) x.2) l _ refl x.0 now refl (enough (i + k) l x.0 x.1))

    pub passing_on : (r : Candidate) → Next reason w target base i last fuel r → Passing r.node r.left
    passing_on r x = rw x.node_is (on_by x.passed r.left x.inside x.nodes)

-- the loop over the nodes ends at one of the target's type, with the value that is due there
pub start_found : (w : Words) (target : ℕ) (value : Option ℕ) (base from last : ℕ) (left : State) (i : ℕ) (fuel : State) → Passing (OtherValue w value) w target base from last left i fuel → (i < last → type_in (get_or w (base + 2 * i) 0) ≡ target)
    → (i < last → 0 < fuel.attempts → allowed value (get_or w (base + 2 * i + 1) 0) ≡ true) → NextStart w target value base from last left (record { node = i; left = fuel })
start_found w target value base from last left i fuel pa t v = record { next = passing_done (OtherValue w value) w target base from last left i fuel pa t; valued = v }

-- a part of work memory that begins with a node of the target's type
part_begins : (pairs w : Words) (target base end last : ℕ) → (0 < last → (base + 2 * last ≤ end) × (end ≤ length w)) → (n : ℕ) → n < last → type_in (get_or w (base + 2 * n) 0) ≡ target → BeginsWithNode pairs target
    → (2 ≤ length (span w (base + 2 * n) end)) × BeginsWithNode pairs (type_in (get_or (span w (base + 2 * n) end) 0 0)) × (get_or (span w (base + 2 * n) end) 1 0 ≡ get_or w (base + 2 * n + 1) 0)
part_begins pairs w target base end last room n l t b =
    let r = room (omega arith) in
    let long = span_length w (base + 2 * n) end r.1 in
    let first : get_or (span w (base + 2 * n) end) 0 0 ≡ get_or w (base + 2 * n) 0 = span_word w (base + 2 * n) end 0 (omega (arith, r.0)) ∙ ap (λ x. get_or w x 0) (add-zero (base + 2 * n)) in
    (omega (arith, long, r.0), (b.0, b.1 ∙ sym t ∙ sym (ap type_in first)), span_word w (base + 2 * n) end 1 (omega (arith, r.0)))

-- the value that is due is another than is found
other_due : (pairs : Words) (target found : ℕ) (value : Option ℕ) → FirstValue pairs target value → allowed value found ≡ false → BeginsWithNode pairs target × (found ≡ get_or pairs 1 0 → ⊥)
other_due pairs target found (Some v) k o = (k.0, λ e. eqb-false found v o (e ∙ k.1))
other_due pairs target found None k o = no_true (sym o)

-- the search goes from node i to the start that is found, for a pattern of which this is known
module _ (pairs w : Words) (target base end from last live : ℕ) (left : State) (first : First) (known : FirstOf pairs target first) (h : live ≤ 6144) (room : 0 < last → (base + 2 * last ≤ end) × (end ≤ length w))
    (i : ℕ) (fuel : State) (pa : Passing (ClashesAt pairs w end live) w target base from last left i fuel) (r : Candidate)
    (found : NextStart w target first.value base i last fuel r) where
  other_clashes : (n : ℕ) → n < last → type_in (get_or w (base + 2 * n) 0) ≡ target → OtherValue w first.value (base + 2 * n) → ClashesAt pairs w end live (base + 2 * n)
  other_clashes n l t o =
      let f = other_due pairs target _ first.value known.value_is o in
      let k = part_begins pairs w target base end last room n l t f.0 in
      clashing_first pairs (span w (base + 2 * n) end) live h k.0 k.1 (λ e. f.1 (sym k.2 ∙ e))

  moved : Passing (ClashesAt pairs w end live) w target base from last left r.node r.left
  moved = passing_on (ClashesAt pairs w end live) w target base from last left (OtherValue w first.value) other_clashes i fuel pa r found.next

  pub candidate_found : NextCandidate pairs w target base end from last live left r
  candidate_found = passing_done (ClashesAt pairs w end live) w target base from last left r.node r.left moved found.next.typed

  module _ (l : r.node < last) where
    pub candidate_begun : (v : ℕ) × (first.value ≡ Some v) → 0 < r.left.attempts → Begun pairs (span w (base + 2 * r.node) end)
    candidate_begun v some =
        let f : FirstValue pairs target (Some v.0) = rw v.1 at known.value_is in
        let a : allowed (Some v.0) (get_or w (base + 2 * r.node + 1) 0) ≡ true = rw v.1 at (found.valued l some) in
        let k = part_begins pairs w target base end last room r.node l (found.next.typed l) f.0 in
        (k.0, k.1, k.2 ∙ eqb-true (get_or w (base + 2 * r.node + 1) 0) v.0 a ∙ sym f.1)

    pub candidate_fails : (now : State) → r.left.attempts ≡ suc now.attempts → Clashes pairs (span w (base + 2 * r.node) end) live → Passing (ClashesAt pairs w end live) w target base from last left (r.node + 1) now
    candidate_fails now z x = passing_fail (ClashesAt pairs w end live) w target base from last left r.node r.left moved l _ refl (found.next.typed l) now z x

-- A SEARCH OF A PART

-- what is passed over in the part that begins at base is passed over in the whole
module _ (pairs w part : Words) (target base n live : ℕ) (is : part ≡ span w base (base + 2 * n)) where
  node_in : (i : ℕ) → i < n → get_or part (0 + 2 * i) 0 ≡ get_or w (base + 2 * i) 0
  node_in i h = let z : base + (0 + 2 * i) ≡ base + 2 * i = omega arith in ap (λ x. get_or x (0 + 2 * i) 0) is ∙ span_word w base (base + 2 * n) (0 + 2 * i) (omega arith) ∙ ap (λ k. get_or w k 0) z

  span_in : (i : ℕ) → i < n → span part (0 + 2 * i) (2 * n) ≡ span w (base + 2 * i) (base + 2 * n)
  span_in i h =
      let k = 2 * n - (0 + 2 * i) in
      let z : k ≡ base + 2 * n - (base + 2 * i) = omega arith in
      let y : base + (0 + 2 * i) ≡ base + 2 * i = omega arith in
      ap (λ x. take k (drop (0 + 2 * i) x)) is ∙ ap (take k) (drop_take (base + 2 * n - base) (0 + 2 * i) (drop base w)) ∙ take-take k (base + 2 * n - base - (0 + 2 * i)) (drop (0 + 2 * i) (drop base w)) (omega arith)
      ∙ ap (take k) (drop-drop (0 + 2 * i) base w ∙ ap (λ x. drop x w) y) ∙ ap (λ x. take x (drop (base + 2 * i) w)) z

  clash_in : (i : ℕ) → i < n → ClashesAt pairs part (2 * n) live (0 + 2 * i) → ClashesAt pairs w (base + 2 * n) live (base + 2 * i)
  clash_in i h c = rw (span_in i h) at c

  passed_in : (from k : ℕ) (left now : State) → (0 < k → from + k ≤ n) → Passed (ClashesAt pairs part (2 * n) live) part target 0 from left k now → Passed (ClashesAt pairs w (base + 2 * n) live) w target base from left k now
  passed_in from zero left now h e = e
  passed_in from (suc k) left now h (inl x) = let l : from + k < n = omega (arith, h (omega arith)) in inl ((λ q. x.0 (ap type_in (node_in (from + k) l) ∙ q)), passed_in from k left now (λ _. omega arith) x.1)
  passed_in from (suc k) left now h (inr x) =
      let l : from + k < n = omega (arith, h (omega arith)) in
      inr (ap type_in (sym (node_in (from + k) l)) ∙ x.0, clash_in (from + k) l x.1, passed_in from k left (unspent now) (λ _. omega arith) x.2)

  pub next_in : (from last : ℕ) (left : State) (r : Candidate) → last ≤ n → NextCandidate pairs part target 0 (2 * n) from last live left r → NextCandidate pairs w target base (base + 2 * n) from last live left r
  next_in from last left r l x = record {
    passed = x.passed;
    node_is = x.node_is;
    inside = x.inside;
    nodes = passed_in from x.passed left r.left (λ h. omega (arith, l, x.inside h)) x.nodes;
    typed = λ h. ap type_in (sym (node_in r.node (omega arith))) ∙ x.typed h;
  }
