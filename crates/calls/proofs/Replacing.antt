-- What `replace` ensures, from what `finish` and `replace_tree` ensure. Assumes nothing.
use Prim.Native.Nat.{ℕ, ◌+◌, ◌*◌, ◌<◌, ◌≤◌}
use mathlib.Core.Path.{sym, ◌≡◌, ap, ◌∙◌}
use mathlib.Core.List.{List, ◌++◌}
use mathlib.Core.Bool.{Bool, true, false}
use native.Mathlib.Omega.{arith}
use lib.ListN.{take, drop, length-append}
use lib.Seq.{length-take-le}
use lib.Dec.{leb}
use Rattle.words.specs.Reader.{Words, pick, and}
use Rattle.words.proofs.Laws.{and_both}
use Rattle.grammar.specs.Grammar.{Grammar}
use Rattle.tree.specs.Limits.{most_nodes, most_nesting}
use Rattle.tree.specs.Tree.{Tree, size, nesting, is_tree, after, first_tree, type_of, put}
use Rattle.tree.proofs.Trees.{passes_tree}
use Rattle.rules.specs.Rules as Rules
use Rattle.rules.specs.Rules.{Piece, pieces}
use Rattle.meaning.specs.declared.State.{State}
use Rattle.std.specs.Prelude.{Result, Ok, Err}
use Rattle.meaning.specs.Computation as Computation
use Rattle.meaning.specs.Computation.{ok, stop, Comp, then_of, stop_unless, check, return, nodes_within, nesting_within}
use Rattle.meaning.specs.Meaning as M
use Rattle.meaning.specs.Meaning.{Bindings, calls}
use Rattle.rewrite.specs.Arena.{Standing, Replaced, PlacedAs, Says}
use Rattle.rules.specs.Views.{pairs_at}
use Rattle.calls.specs.Engine.{Open, Held, Given, Setting, Sure, Finishes, Replaces}
use Rattle.rewrite.specs.Arena.{scope_limits}
use Rattle.calls.specs.declared.Built.{Built}
use Rattle.rewrite.proofs.Standing.{take_less, tree_length, some_nodes, standing_kept}
use Rattle.calls.proofs.Going.{ok_err, err_ok, err_is, then_ok, then_stop, sure_first, sure_as, check_sure, says_ok, says_stop, stop_says, says_map}

-- THE MEANING, STEP BY STEP

-- what is left of a replacement that is finished
abbrev placing : Grammar → ℕ → Words → ℕ → Words → Comp Words
placing g target scope place ws left =
    then_of (check true (and (is_tree g target (first_tree g (drop place scope))) (is_tree g target ws)) left)
    (λ _ left. then_of (nodes_within (size (put g scope place ws)) left)
    (λ _ left. then_of (nesting_within g (put g scope place ws) left)
    (λ _ left. then_of (check true (is_tree g (type_of scope) (put g scope place ws)) left)
    (λ _. return (put g scope place ws)))))

module _ (g : Grammar) (rules : Rules.Rules) (deeper : M.Calls) (target : ℕ) (ps : List Piece) (scope : Words) (f : M.Found) (left : State) where
  abbrev whole : Computation.Result Words
  whole = M.replace true g rules deeper target ps scope f left

  abbrev finished : Computation.Result Words
  finished = M.finish true g rules deeper target ps f.bound left

  finish_sure : Sure whole → Sure finished
  unfolding M.replace
  finish_sure s = sure_first finished _ s

  replace_stops : (n : ℕ) (l : State) → finished ≡ stop n l → whole ≡ stop n l
  unfolding M.replace
  replace_stops n l e = then_stop finished _ n l e

  replace_goes : (ws : Words) (l : State) → finished ≡ ok ws l → whole ≡ placing g target scope f.place ws l
  unfolding M.replace
  replace_goes ws l e = then_ok finished _ ws l e

-- within the limits, so many nodes of which P holds; otherwise the stop
abbrev Limited : Result (Unit {0}) ℕ → (ℕ → Words → Type 0) → Words → Result ℕ ℕ → Type 0
Limited m P v (Ok n) = (m ≡ Ok tt) × P n v
Limited m P v (Err k) = m ≡ Err k

-- both limits and a last test
limits_say : (P : ℕ → Words → Type 0) (v : Words) (a b c : Bool) (r : Result ℕ ℕ) (l : State) → Limited (pick a (pick b (Ok tt) (Err 43)) (Err 42)) P v r
    → Sure (then_of (stop_unless 42 a l) (λ _ l. then_of (stop_unless 43 b l) (λ _ l. then_of (check true c l) (λ _. return v))))
    → Says P r l (then_of (stop_unless 42 a l) (λ _ l. then_of (stop_unless 43 b l) (λ _ l. then_of (check true c l) (λ _. return v))))
unfolding then_of stop_unless
limits_say P v true true c (Ok n) l e q = (v, e.1, (check_sure c l (λ _. return v) q).1)
limits_say P v true true c (Err k) l e q = absurd (ok_err e)
limits_say P v true false c (Ok n) l e q = absurd (err_ok e.0)
limits_say P v true false c (Err k) l e q = ap (λ j. stop j l) (err_is e)
limits_say P v false b c (Ok n) l e q = absurd (err_ok e.0)
limits_say P v false b c (Err k) l e q = ap (λ j. stop j l) (err_is e)

module _ (g : Grammar) (target : ℕ) (scope : Words) (place : ℕ) (ws : Words) (l : State) where
  -- the node's tree is of the target's type
  placing_typed : Sure (placing g target scope place ws l) → Tree g target (first_tree g (drop place scope))
  placing_typed q =
      let old = is_tree g target (first_tree g (drop place scope)) in
      let new = is_tree g target ws in
      passes_tree (first_tree g (drop place scope)) (and_both old new (check_sure (and old new) l _ q).0).0

  placing_says : (P : ℕ → Words → Type 0) (r : Result ℕ ℕ) → Limited (scope_limits g (put g scope place ws)) P (put g scope place ws) r → Sure (placing g target scope place ws l)
      → Says P r l (placing g target scope place ws l)
  unfolding nodes_within nesting_within
  placing_says P r e q =
      let v = put g scope place ws in
      let x = check_sure (and (is_tree g target (first_tree g (drop place scope))) (is_tree g target ws)) l _ q in
      says_map P P _ _ l r (λ _ _ p. p) x.1 (limits_say P v (leb (size v) most_nodes) (leb (nesting g v) most_nesting) (is_tree g (type_of scope) v) r l e (sure_as x.1 q))

-- WHAT WAS PUT IN PLACE

placed_kept : (g : Grammar) (w w' : Words) (base t : ℕ) (scope : Words) (r : Result ℕ ℕ) → PlacedAs g w w' base t scope r → take base w' ≡ take base w
placed_kept g w w' base t scope (Ok n) x = x.1
placed_kept g w w' base t scope (Err k) x = ap (take base) x.1

placed_same : (g : Grammar) (w w' : Words) (base t : ℕ) (scope : Words) (r : Result ℕ ℕ) {k : ℕ} → r ≡ Err k → PlacedAs g w w' base t scope r → w' ≡ w
placed_same g w w' base t scope (Ok n) e x = absurd (ok_err e)
placed_same g w w' base t scope (Err k) e x = x.1

-- the place of node i is one of the scope's afterwards
put_inside : (g : Grammar) (i : ℕ) (scope ws : Words) {t target : ℕ} → i < size scope → Tree g t scope → Tree g target ws → Tree g t (put g scope (2 * i) ws) → i < size (put g scope (2 * i) ws)
unfolding put
put_inside g i scope ws h old new whole =
    omega (arith, some_nodes ws new, tree_length old, tree_length new, tree_length whole, length-take-le (2 * i) scope (omega (arith, tree_length old)), length-append (take (2 * i) scope) (ws ++ after g (drop (2 * i) scope) 1), length-append ws (after g (drop (2 * i) scope) 1))

-- THE CODE'S WAYS

module _ (given : Given) (w w₁ : Words) (at base n i : ℕ) (frame : Open) (deep : ℕ) (left : State) (b : Built) (inside : i < n) (low : base + 2 * n ≤ frame.top)
    (f : Finishes given w w₁ at frame deep left b) where
  module _ (g : Grammar) (rules : Rules.Rules) (v : Bindings) (target : ℕ) (scope : Words) (set : Setting given g rules) (held : Held g w frame v) where
    abbrev d : M.Calls
    d = calls true g rules deep

    abbrev ps : List Piece
    ps = pieces (pairs_at given.book at)

    abbrev m : M.Found
    m = record { place = 2 * i; bound = v }

    abbrev SaysFinish : Type 0
    SaysFinish = (take frame.top w₁ ≡ take frame.top w) × Says (λ nodes. Standing g w₁ frame.top nodes target) b.nodes b.left (M.finish true g rules d target ps v left)

    finish_says : Sure (M.replace true g rules d target ps scope m left) → SaysFinish
    finish_says sure = (f target).meant g rules v set held (finish_sure g rules d target ps scope m left sure)

    stopped_says : {k : ℕ} → b.nodes ≡ Err k → SaysFinish → (P : ℕ → Words → Type 0) → Says P b.nodes b.left (M.replace true g rules d target ps scope m left)
    stopped_says {k} e x P =
        let y = says_stop (λ nodes. Standing g w₁ frame.top nodes target) (M.finish true g rules d target ps v left) b.left e x.1 in
        stop_says P (M.replace true g rules d target ps scope m left) b.left e (replace_stops g rules d target ps scope m left k b.left y)

  -- the replacement is not finished
  pub replaces_stopped : {k : ℕ} → b.nodes ≡ Err k → Replaces given w w₁ at base n i frame deep left b
  replaces_stopped e = record {
    few = λ z. absurd (err_ok (sym e ∙ z));
    fits = λ z. absurd (err_ok (sym e ∙ z));
    less = (f 0).less;
    long = (f 0).long;
    meant = λ g rules v t target scope set held stands sure.
        let x = finish_says g rules v target scope set held sure in
        (take_less base frame.top w w₁ (omega arith) x.0, λ k z. take_less (base + 2 * n) frame.top w w₁ low x.0, stopped_says g rules v target scope set held e x (λ nodes ws. Standing g w₁ base nodes t ws × (i < nodes)));
  }

  module _ (w₂ : Words) (p : Result ℕ ℕ) {made : ℕ} (z : b.nodes ≡ Ok made) (x : Replaced given.types w₁ w₂ base n i frame.top made p) where
    put_says : (g : Grammar) (rules : Rules.Rules) (v : Bindings) (t target : ℕ) (scope : Words) → Setting given g rules → Held g w frame v → Standing g w base n t scope
        → Sure (M.replace true g rules (calls true g rules deep) target (pieces (pairs_at given.book at)) scope (record { place = 2 * i; bound = v }) left)
        → (take base w₂ ≡ take base w) × ((k : ℕ) → p ≡ Err k → take (base + 2 * n) w₂ ≡ take (base + 2 * n) w)
        × Says (λ nodes ws. Standing g w₂ base nodes t ws × (i < nodes)) p b.left (M.replace true g rules (calls true g rules deep) target (pieces (pairs_at given.book at)) scope (record { place = 2 * i; bound = v }) left)
    put_says g rules v t target scope set held stands sure =
        let m : M.Found = record { place = 2 * i; bound = v } in
        let d = calls true g rules deep in
        let ps = pieces (pairs_at given.book at) in
        let y = finish_says g rules v target scope set held sure in
        let q = says_ok (λ nodes. Standing g w₁ frame.top nodes target) (M.finish true g rules d target ps v left) b.left z y.1 in
        let go = replace_goes g rules d target ps scope m left q.0 b.left q.2 in
        let sure₁ = sure_as go sure in
        let typed = placing_typed g target scope (2 * i) q.0 b.left sure₁ in
        let here = x.replaced g t target scope q.0 set.types_of (standing_kept w w₁ frame.top low y.0 stands) q.1 typed in
        let new = put g scope (2 * i) q.0 in
        let P : ℕ → Words → Type 0 = λ nodes ws. Standing g w₂ base nodes t ws × (i < nodes) in (
          placed_kept g w₁ w₂ base t new p here ∙ take_less base frame.top w w₁ (omega arith) y.0,
          λ k e. ap (take (base + 2 * n)) (placed_same g w₁ w₂ base t new p e here) ∙ take_less (base + 2 * n) frame.top w w₁ low y.0,
          says_map P P _ _ b.left p (λ _ _ a. a) go
              (placing_says g target scope (2 * i) q.0 b.left P p (limited g t scope q.0 (omega (arith, stands.nodes, inside)) stands.tree q.1.tree p here) sure₁),
        )
      where
        limited : (g : Grammar) (t : ℕ) (scope ws : Words) {target : ℕ} → i < size scope → Tree g t scope → Tree g target ws → (p : Result ℕ ℕ) → PlacedAs g w₁ w₂ base t (put g scope (2 * i) ws) p
            → Limited (scope_limits g (put g scope (2 * i) ws)) (λ nodes ws. Standing g w₂ base nodes t ws × (i < nodes)) (put g scope (2 * i) ws) p
        limited g t scope ws h old tree (Ok nodes) x = (x.0, (x.2, omega (arith, x.2.nodes, put_inside g i scope ws h old tree x.2.tree)))
        limited g t scope ws h old tree (Err k) x = x.0

  -- it is, and is put in place or stops there
  pub replaces_put : (w₂ : Words) (p : Result ℕ ℕ) → n ≤ most_nodes → {made : ℕ} → b.nodes ≡ Ok made → Replaced given.types w₁ w₂ base n i frame.top made p
      → Replaces given w w₂ at base n i frame deep left (record { nodes = p; left = b.left })
  replaces_put w₂ p fw z x = record {
    few = λ q. x.few q fw;
    fits = λ q. omega (arith, x.most q, (f 0).fits z);
    less = (f 0).less;
    long = x.long ∙ (f 0).long;
    meant = put_says w₂ p z x;
  }
