-- Laws of the layout's readers, over plain variables. Assumes nothing.
use Prim.Native.Nat.{ℕ, zero, suc, ◌+◌, ◌-◌, ◌*◌, ◌≤◌}
use mathlib.Core.Path.{◌≡◌, refl, sym, ◌∙◌}
use mathlib.Core.List.{List, []}
use mathlib.Core.Bool.{Bool, true, false}
use native.Mathlib.Omega.{arith}
use lib.ListN.{length}
use lib.Dec.{leb}
use Rattle.std.specs.Prelude.{Result, Ok, Err}
use Rattle.words.specs.Reader.{Words, pick, Read, value, refused, and_then, ◌>>=◌, many}
use Rattle.words.specs.Views.{answer}
use Rattle.words.proofs.Laws.{read_word, read_bad, answer_passed, answer_refused, answer_map, answer_done, answer_stop, answer_next, shown_ok, shown_err, then_value, pick_value, in_value, many_suc, many_length}
use Rattle.rules.specs.Limits.{most_parameters, most_parts, most_pairs}
use Rattle.rules.specs.Layout.{Head, bit, only_if, field, pairs, type_field, part_at, part, parts, parameters, head}
use Rattle.rules.specs.declared.Head.{Head as HeadFound}
use Rattle.rules.specs.Views.{part_count, strategy_as, head_read}

-- what a function over readers is proved by
pub ruleset readings = (read_word, read_bad, answer_passed, answer_refused, answer_map, answer_done, answer_stop, answer_next, shown_ok, shown_err)

-- where pairs pass, their value is where their count stands
pub pairs_passed : (ws : Words) (at : ℕ) (c : Result ℕ (ℕ × ℕ)) → c ≡ answer (pairs ws at) → {next : ℕ} → c ≡ Ok next → pairs ws at ≡ value at next
unfolding pairs
pairs_passed ws at c d {next} e =
    let u = answer_passed (pairs ws at) c d e in
    let v = then_value (field ws 1 most_pairs at) (λ k p. pick (leb (p + 2 * k) (length ws)) (value at (p + 2 * k)) (refused 20 (length ws))) u.1 in
    let w = pick_value (leb (v.1 + 2 * v.0) (length ws)) at u.0 (v.1 + 2 * v.0) 20 (length ws) next v.3 in
    u.1 ∙ rw (← w.1)

-- what is made of a part does not change the answer
pub part_answer : (types : ℕ) (ws : Words) (at : ℕ) → answer (part_at types ws at) ≡ answer (part types ws at)
unfolding part
part_answer types ws at = answer_map (part_at types ws at) _

-- parts are announced as many as are read
pub parts_counted : (types : ℕ) (ws : Words) (m at : ℕ) → parts types ws m at ≡ and_then (part_count ws m at) (λ k. many k (part types ws))
unfolding parts many
parts_counted types ws m at = go (bit 2 m)
  where
    go : (b : Bool) → only_if b [] (◌>>=◌ (field ws 1 most_parts) (λ k. many k (part types ws))) at ≡ and_then (only_if b 0 (field ws 1 most_parts) at) (λ k. many k (part types ws))
    go true = refl
    go false = refl

-- k types take k words
pub types_words : (types : ℕ) (ws : Words) (k at : ℕ) {ts : List ℕ} {next : ℕ} → many k (type_field types ws) at ≡ value ts next → (length ts ≡ k) × (k + at ≤ next)
unfolding many type_field field
types_words types ws k at {ts} {next} e = (many_length (type_field types ws) k at ts next e, go k at ts next e)
  where
    go : (k at : ℕ) (ts : List ℕ) (next : ℕ) → many k (type_field types ws) at ≡ value ts next → k + at ≤ next
    go zero at ts next e = let y : at ≡ next = cc in omega arith
    go (suc k) at ts next e =
        let u = many_suc (type_field types ws) k at e in
        let v = go k u.1 u.2 next u.4 in
        let w = in_value 20 21 ws 0 (types - 1) at u.3 in
        omega arith

-- parameters take as many words
pub parameters_words : (types : ℕ) (ws : Words) (m at : ℕ) {ts : List ℕ} {next : ℕ} → parameters types ws m at ≡ value ts next → length ts ≤ next
unfolding parameters
parameters_words types ws m at {ts} {next} = go (bit 1 m)
  where
    go : (b : Bool) → only_if b [] (◌>>=◌ (field ws 1 most_parameters) (λ k. many k (type_field types ws))) at ≡ value ts next → length ts ≤ next
    go true e =
        let u = then_value (field ws 1 most_parameters at) (λ k. many k (type_field types ws)) e in
        let v = types_words types ws u.0 u.1 u.3 in
        omega arith
    go false e = let z : [] ≡ ts = cc in rw (← z) (omega arith)

-- A RULE'S HEAD

module _ (types : ℕ) (ws : Words) (at : ℕ) (r : Result HeadFound (ℕ × ℕ)) (e : r ≡ head_read (head types ws at)) where
  pub head_refused : {x : ℕ × ℕ} → r ≡ Err x → head types ws at ≡ refused x.0 x.1
  head_refused {x} b = go (head types ws at) e
    where
      go : (q : Read Head) → r ≡ head_read q → q ≡ refused x.0 x.1
      go (value h k) d = let z = sym b ∙ d in cc
      go (refused k q) d = cc

  pub head_found : {f : HeadFound} → r ≡ Ok f → (h : Head) × (next : ℕ) × (head types ws at ≡ value h next)
      × (f ≡ record { map = h.map; target = h.target; strategy = strategy_as h.strategy; count = length h.parameters; parameters = next - length h.parameters; pattern = next })
  head_found {f} b = go (head types ws at) refl e
    where
      go : (q : Read Head) → head types ws at ≡ q → r ≡ head_read q → (h : Head) × (next : ℕ) × (head types ws at ≡ value h next)
          × (f ≡ record { map = h.map; target = h.target; strategy = strategy_as h.strategy; count = length h.parameters; parameters = next - length h.parameters; pattern = next })
      go (value h k) i d = (h, k, i, cc)
      go (refused k q) i d = let z = sym b ∙ d in cc

  -- its fields, where the code found them
  pub head_there : {f : HeadFound} → r ≡ Ok f → (h : Head) × (head types ws at ≡ value h f.pattern) × (h.map ≡ f.map) × (h.target ≡ f.target) × (strategy_as h.strategy ≡ f.strategy)
  head_there {f} b = let u = head_found b in rw u.3 (u.0, u.2, refl, refl, refl)
