-- Laws of a part, the parts and a rule: what each path through the code finds is what the definition finds. Assumes nothing.
use Prim.Native.Nat.{ℕ, zero, suc, ◌+◌, ◌-◌, ◌<◌, ◌≤◌}
use mathlib.Core.Path.{◌≡◌, refl, sym, ap, ◌∙◌}
use mathlib.Core.List.{[], ◌∷◌, ◌++◌}
use mathlib.Core.Bool.{Bool, true, false}
use mathlib.Core.Option.{none, some}
use native.Mathlib.Omega.{arith}
use native.Mathlib.Nat.{add-zero}
use lib.ListN.{length, get_or}
use lib.Dec.{leb}
use borrow.Author.Tests.{lt-ltb, le-ltb, leb-true, leb-false}
use Rattle.std.specs.Prelude.{Result, Ok, Err, Option, None, Some, slice_get}
use Rattle.std.specs.Option.{unwrap_or}
use Rattle.std.proofs.lemmas.Option.{slice_get_within, get_or_from_slice_get, slice_get-get_or}
use Rattle.words.specs.Reader.{Words, Read, value, refused, Reader, and_then, return, accepted, ◌>>=◌}
use Rattle.words.specs.Views.{answer}
use Rattle.words.proofs.Laws.{shown_ok, shown_err, accepted_value}
use Rattle.grammar.specs.Grammar.{Grammar}
use Rattle.tree.specs.Reading.{tree}
use Rattle.rules.specs.Rules.{Rules, pieces}
use Rattle.rules.specs.Layout as Layout
use Rattle.rules.specs.Layout.{Head, PartAt, deconstruct_at, construct_at, condition_at, bit, stretch, field, pairs, part_at, replacement, rule}
use Rattle.rules.specs.Views.{part_read, part_as, place_of_pairs, head_read, strategy_as}
use Rattle.rules.specs.declared.Head.{Head as HeadFound}
use Rattle.rules.specs.declared.Deconstruct.{Deconstruct as Taken}
use Rattle.rules.specs.declared.Condition.{Condition as Tested}
use Rattle.rules.specs.declared.Part.TheVariants.{Condition}
use Rattle.rules.specs.declared.FoundPart.{FoundPart}
use Rattle.rules.proofs.Laws.{head_refused, head_found}
use Rattle.judgement.specs.Typing.{in_pattern, in_replacement, in_condition, a_tree, a_chain, Context, typed, variable_there, part_typed, parts_typed, rule_typed}
use Rattle.dues.specs.Views.{words_at}
use Rattle.pairs.specs.Views.{typed_as}
use Rattle.pairs.proofs.Heads.{head_parameters}
use Rattle.pairs.proofs.Stretch.{stretch_accepted}
use Rattle.typing.specs.Views.{searched_of, deconstruct_of, parts_for, replacement_for}
use Rattle.typing.proofs.Places.{pairs_at, part_pairs, RuleAt, rule_shape, rule_replacement}

-- what the variables that are handed back tell of the reading
typed_ok : {q : Read Context} {Γ : Context} {next : ℕ} → Ok (Γ, next) ≡ typed_as q → q ≡ value Γ next
typed_ok {q} {Γ} {next} e = let u = shown_ok (λ (Γ : Context). Γ) q e in u.1 ∙ ap (λ Δ. value Δ next) (sym u.2)

typed_err : {q : Read Context} {x : ℕ × ℕ} → Err x ≡ typed_as q → q ≡ refused x.0 x.1
typed_err {q} e = shown_err (λ (Γ : Context). Γ) q e

-- A PART

module _ (g : Grammar) (rules : Rules) (ws : Words) (Γ : Context) (at : ℕ) where
  module _ (s p : ℕ) {b : Bool} (full : b ≡ leb 16 (length Γ)) where
    pub construct_full : b ≡ true → Err (24, at) ≡ typed_as (part_typed g rules ws (construct_at s p) Γ at)
    unfolding part_typed
    construct_full h = rw (le-ltb (length Γ) 16 (leb-true 16 (length Γ) (sym full ∙ h)), add-zero at)

    module _ (h : b ≡ false) where
      pub construct_room : length Γ < 16
      construct_room = leb-false 16 (length Γ) (sym full ∙ h)

      pub construct_refused : {x : ℕ × ℕ} → Err x ≡ typed_as (typed g rules ws in_replacement (a_tree (tree 1 s)) Γ p) → Err x ≡ typed_as (part_typed g rules ws (construct_at s p) Γ at)
      unfolding part_typed
      construct_refused e = rw (lt-ltb (length Γ) 16 construct_room, typed_err e)

      pub construct_there : {Δ Θ : Context} {next : ℕ} → Ok (Δ, next) ≡ typed_as (typed g rules ws in_replacement (a_tree (tree 1 s)) Γ p) → Θ ≡ Γ ++ s ∷ []
          → Ok (Θ, next) ≡ typed_as (part_typed g rules ws (construct_at s p) Γ at)
      unfolding part_typed
      construct_there e k = rw (lt-ltb (length Γ) 16 construct_room, typed_ok e, k)

  absent : (o : Option ℕ) (x p : ℕ) → length Γ ≤ get_or ws x 0 → Err (22, x) ≡ typed_as (part_typed g rules ws (deconstruct_at (searched_of o) x p) Γ at)
  unfolding part_typed variable_there
  absent None x p h = rw (le-ltb (get_or ws x 0) (length Γ) h)
  absent (Some s) x p h = rw (le-ltb (get_or ws x 0) (length Γ) h)

  there : (o : Option ℕ) (x p own : ℕ) → slice_get Γ (get_or ws x 0) ≡ Some own → part_typed g rules ws (deconstruct_at (searched_of o) x p) Γ at ≡ typed g rules ws in_pattern (a_tree (tree 1 (unwrap_or o own))) Γ p
  unfolding part_typed variable_there
  there None x p own e = rw (lt-ltb (get_or ws x 0) (length Γ) (slice_get_within Γ (get_or ws x 0) own e), get_or_from_slice_get Γ (get_or ws x 0) own 0 e)
  there (Some s) x p own e = rw (lt-ltb (get_or ws x 0) (length Γ) (slice_get_within Γ (get_or ws x 0) own e))

  module _ (d : Taken) {v : ℕ} (ev : v ≡ get_or ws d.variable 0) {o : Option ℕ} (eo : slice_get Γ v ≡ o) where
    pub deconstruct_absent : ((t : ℕ) → o ≡ Some t → ⊥) → Err (22, d.variable) ≡ typed_as (part_typed g rules ws (deconstruct_of d) Γ at)
    deconstruct_absent h = let l : length Γ ≤ v = past (λ l. h (get_or Γ v 0) (sym eo ∙ slice_get-get_or Γ v 0 l)) in absent d.searched d.variable d.pattern (omega (arith, l, ev))
      where
        past : (v < length Γ → ⊥) → length Γ ≤ v
        past n = omega (arith, n)

    pub deconstruct_there : {own t : ℕ} → o ≡ Some own → t ≡ unwrap_or d.searched own → {r : Result (Context × ℕ) (ℕ × ℕ)} → r ≡ typed_as (typed g rules ws in_pattern (a_tree (tree 1 t)) Γ d.pattern)
        → r ≡ typed_as (part_typed g rules ws (deconstruct_of d) Γ at)
    deconstruct_there {own} h e k = k ∙ rw (e, there d.searched d.variable d.pattern own (rw ev at (eo ∙ h)))

-- what the reader of a part tells
part_found : (q : Read PartAt) {f : FoundPart} → Ok f ≡ part_read q → (a : PartAt) × (q ≡ value a f.next) × (part_as a ≡ f.part)
part_found (value a m) {f} e = let z : record { part = part_as a; next = m } ≡ f = cc e in (a, rw (← z), rw (← z))
part_found (refused n p) e = cc

as_tested : (a : PartAt) (k : Tested) → part_as a ≡ Condition k → a ≡ condition_at k.negated k.chain
as_tested (deconstruct_at none x p) k e = let z : ◌≡◌ {A = ℕ} 0 1 = cc in absurd (omega arith)
as_tested (deconstruct_at (some s) x p) k e = let z : ◌≡◌ {A = ℕ} 0 1 = cc in absurd (omega arith)
as_tested (construct_at s p) k e = let z : ◌≡◌ {A = ℕ} 0 1 = cc in absurd (omega arith)
as_tested (condition_at b p) k e = let z : record { negated = b; chain = p } ≡ k = cc in rw (← z)

place_is : (a : PartAt) → place_of_pairs (part_as a) ≡ pairs_at a
place_is (deconstruct_at none x p) = refl
place_is (deconstruct_at (some s) x p) = refl
place_is (construct_at s p) = refl
place_is (condition_at b p) = refl

module _ (types : ℕ) (ws : Words) (at : ℕ) {f : FoundPart} (e : Ok f ≡ part_read (part_at types ws at)) where
  -- its pairs are there
  pub part_accepted : accepted (pairs ws (place_of_pairs f.part)) ≡ true
  part_accepted =
      let u = part_found (part_at types ws at) e in
      rw (← u.2, place_is u.0) (stretch_accepted (part_pairs types ws at u.0 f.next u.1))

  pub part_condition : (g : Grammar) (rules : Rules) (Γ : Context) {k : Tested} → f.part ≡ Condition k → {r : Result (Context × ℕ) (ℕ × ℕ)} → r ≡ typed_as (typed g rules ws in_condition a_chain Γ k.chain)
      → r ≡ typed_as (and_then (part_at types ws at) (λ p next. part_typed g rules ws p Γ at))
  unfolding part_typed
  part_condition g rules Γ {k} h t = let u = part_found (part_at types ws at) e in t ∙ rw (u.1, as_tested u.0 k (u.2 ∙ h))

-- THE PARTS, of which i of k are read

module _ (g : Grammar) (rules : Rules) (ws : Words) where
  abbrev one_part : Context → Reader Context
  one_part Γ at = and_then (part_at (length g) ws at) (λ p next. part_typed g rules ws p Γ at)

  some_parts : (k : ℕ) (Γ : Context) (at : ℕ) → 0 < k → parts_typed g rules ws k Γ at ≡ and_then (one_part Γ at) (parts_typed g rules ws (k - 1))
  unfolding parts_typed
  some_parts zero Γ at h = absurd (omega arith)
  some_parts (suc k) Γ at h = let z : suc k - 1 ≡ k = omega arith in rw z (go (part_at (length g) ws at))
    where
      go : (q : Read PartAt) → and_then q (λ p n. and_then (part_typed g rules ws p Γ at) (parts_typed g rules ws k)) ≡ and_then (and_then q (λ p n. part_typed g rules ws p Γ at)) (parts_typed g rules ws k)
      go (value p n) = refl
      go (refused n p) = refl

  no_parts : (k : ℕ) (Γ : Context) (at : ℕ) → k ≤ 0 → parts_typed g rules ws k Γ at ≡ value Γ at
  unfolding parts_typed
  no_parts zero Γ at h = refl
  no_parts (suc k) Γ at h = absurd (omega arith)

  module _ (k i : ℕ) (Γ : Context) (at : ℕ) where
    pub parts_done : k ≤ i → Ok (Γ, at) ≡ typed_as (parts_typed g rules ws (k - i) Γ at)
    parts_done h = rw (no_parts (k - i) Γ at (omega arith))

    module _ (h : i < k) {types : ℕ} (l : length g ≡ types) where
      pub parts_stop : {x : ℕ × ℕ} → Err x ≡ typed_as (and_then (part_at types ws at) (λ p next. part_typed g rules ws p Γ at)) → Err x ≡ typed_as (parts_typed g rules ws (k - i) Γ at)
      parts_stop e = rw (some_parts (k - i) Γ at (omega arith), l, typed_err e)

      pub parts_next : {Δ : Context} {next : ℕ} → Ok (Δ, next) ≡ typed_as (and_then (part_at types ws at) (λ p next. part_typed g rules ws p Γ at))
          → parts_typed g rules ws (k - i) Γ at ≡ parts_typed g rules ws (k - (i + 1)) Δ next
      parts_next e = let z : k - i - 1 ≡ k - (i + 1) = omega arith in rw (some_parts (k - i) Γ at (omega arith), l, typed_ok e, z)

-- THE REPLACEMENT

pub pairs_accepted : (ws : Words) (m at : ℕ) → bit 3 m ≡ true → accepted (replacement ws m at) ≡ true → accepted (pairs ws at) ≡ true
unfolding replacement
pairs_accepted ws m at h a = go (pairs ws at) (rw h at a)
  where
    go : (q : Read ℕ) → accepted (and_then q (λ p. return (some (pieces (stretch ws p))))) ≡ true → accepted q ≡ true
    go (value p n) i = refl
    go (refused n p) i = i

-- A RULE

pub head_fault : (g : Grammar) (rules : Rules) (types : ℕ) (ws : Words) (at : ℕ) → length g ≡ types → {x : ℕ × ℕ} → Err x ≡ head_read (Layout.head types ws at) → Err x ≡ answer (rule_typed g rules ws at)
unfolding rule_typed
head_fault g rules types ws at l {x} e = rw (l, head_refused types ws at (Err x) e refl)

module _ (types : ℕ) (ws : Words) (at : ℕ) {f : HeadFound} (e : Ok f ≡ head_read (Layout.head types ws at)) (a : accepted (rule types ws at) ≡ true) where
  -- the rule's layout, and that its head is the one found
  rule_at : (n : ℕ) × (s : RuleAt types ws at n) × (f ≡ record { map = s.head.map; target = s.head.target; strategy = strategy_as s.head.strategy; count = length s.head.parameters; parameters = s.pattern - length s.head.parameters; pattern = s.pattern })
  rule_at =
      let u = accepted_value (rule types ws at) a in
      let s = (rule_shape types ws at u.0 u.1 u.2).0 in
      let v = head_found types ws at (Ok f) e refl in
      (u.1, s, same v.0 s.head v.1 s.pattern (sym v.2 ∙ s.head_read_lem) v.3)
    where
      same : (h h' : Head) (p p' : ℕ) → value h p ≡ value h' p' → f ≡ record { map = h.map; target = h.target; strategy = strategy_as h.strategy; count = length h.parameters; parameters = p - length h.parameters; pattern = p }
          → f ≡ record { map = h'.map; target = h'.target; strategy = strategy_as h'.strategy; count = length h'.parameters; parameters = p' - length h'.parameters; pattern = p' }
      same h h' p p' i j = let x : h ≡ h' = cc in let y : p ≡ p' = cc in j ∙ rw (x, y)

  pub pattern_accepted : accepted (pairs ws f.pattern) ≡ true
  pattern_accepted = let u = rule_at in rw u.2 (stretch_accepted u.1.pairs_there)

  module _ (g : Grammar) (rules : Rules) (l : length g ≡ types) {Γ : Context} (ps : Γ ≡ words_at ws f.parameters f.count) where
    abbrev after : Context → Reader (Unit {0})
    after Δ = ◌>>=◌ (parts_for g rules ws f.map Δ) (λ Θ. replacement_for g rules ws f.map f.target Θ)

    rule_is : rule_typed g rules ws at ≡ and_then (typed g rules ws in_pattern (a_tree (tree 1 f.target)) Γ f.pattern) after
    unfolding rule_typed
    rule_is =
        let v = head_found types ws at (Ok f) e refl in
        go v.0 v.1 v.2 v.3 (head_parameters types ws at v.0 v.1 v.2).words
      where
        go : (h : Head) (n : ℕ) → Layout.head types ws at ≡ value h n
            → f ≡ record { map = h.map; target = h.target; strategy = strategy_as h.strategy; count = length h.parameters; parameters = n - length h.parameters; pattern = n }
            → h.parameters ≡ words_at ws (n - length h.parameters) (length h.parameters) → rule_typed g rules ws at ≡ and_then (typed g rules ws in_pattern (a_tree (tree 1 f.target)) Γ f.pattern) after
        go h n i j k = let z : Γ ≡ h.parameters = rw j at ps ∙ sym k in rw (l, i, z, j)

    pub pattern_fault : {x : ℕ × ℕ} → Err x ≡ typed_as (typed g rules ws in_pattern (a_tree (tree 1 f.target)) Γ f.pattern) → Err x ≡ answer (rule_typed g rules ws at)
    pattern_fault i = rw (rule_is, typed_err i)

    module _ {Δ : Context} {n : ℕ} (i : Ok (Δ, n) ≡ typed_as (typed g rules ws in_pattern (a_tree (tree 1 f.target)) Γ f.pattern)) where
      matched : rule_typed g rules ws at ≡ after Δ n
      matched = rule_is ∙ rw (typed_ok i)

      pub parts_refused : {x : ℕ × ℕ} → Err x ≡ typed_as (parts_for g rules ws f.map Δ n) → Err x ≡ answer (rule_typed g rules ws at)
      parts_refused j = rw (matched, typed_err j)

      module _ {Θ : Context} {m : ℕ} (j : Ok (Θ, m) ≡ typed_as (parts_for g rules ws f.map Δ n)) where
        pub rule_done : {c : Result ℕ (ℕ × ℕ)} → c ≡ answer (replacement_for g rules ws f.map f.target Θ m) → c ≡ answer (rule_typed g rules ws at)
        rule_done d = d ∙ rw (matched, typed_ok j)

        pub replacement_accepted : accepted (replacement ws f.map m) ≡ true
        replacement_accepted = let u = rule_at in go u.0 u.1 u.2 (typed_ok i) (typed_ok j)
          where
            go : (z : ℕ) (s : RuleAt types ws at z) → f ≡ record { map = s.head.map; target = s.head.target; strategy = strategy_as s.head.strategy; count = length s.head.parameters; parameters = s.pattern - length s.head.parameters; pattern = s.pattern }
                → typed g rules ws in_pattern (a_tree (tree 1 f.target)) Γ f.pattern ≡ value Δ n → parts_for g rules ws f.map Δ n ≡ value Θ m → accepted (replacement ws f.map m) ≡ true
            go z s v x y =
                let em : f.map ≡ s.head.map = rw v in
                let ep : f.pattern ≡ s.pattern = rw v in
                let x' : typed g rules ws in_pattern (a_tree (tree 1 f.target)) Γ s.pattern ≡ value Δ n = rw ep at x in
                let y' : parts_for g rules ws s.head.map Δ n ≡ value Θ m = rw em at y in
                let w = rule_replacement g rules types ws l at z s in_pattern (a_tree (tree 1 f.target)) Γ Δ Θ n m x' y' in
                rw (em, w, s.replacement_read)
