-- The two ways to say what trees are say the same, and two trees of one type are the same exactly if they are written alike. Assumes nothing.
use Prim.Native.Nat.{ℕ, zero, suc, ◌+◌, ◌<◌}
use mathlib.Core.Path.{◌≡◌, refl, sym, ap, subst, ◌∙◌}
use mathlib.Core.List.{List, [], ◌∷◌, ◌++◌}
use mathlib.Core.Bool.{true}
use native.Mathlib.Omega.{arith}
use lib.ListN.{length, length-append}
use Rattle.words.specs.Reader.{Words}
use Rattle.grammar.specs.Grammar.{Grammar}
use Rattle.grammar.specs.Kinds.{allowed, children}
use Rattle.tree.specs.Tree as T
use Rattle.tree.specs.Tree.{Trees, first, after}
use Rattle.tree.specs.Forest.{Forest, none, node, OfTypes, written}
use Rattle.tree.proofs.Trees.{tells, trees_append, Split, split, first_after, first_append, after_append}

pub forest_trees : {g : Grammar} (f : Forest) (ts : List ℕ) → OfTypes g f ts → Trees g ts (written f)
unfolding written
forest_trees none [] h = T.none
forest_trees none (t ∷ ts) h = absurd h
forest_trees (node u v kids others) [] h = absurd h
forest_trees {g} (node u v kids others) (t ∷ ts) h = rw h.0 (T.node h.1 (trees_append (forest_trees kids (children g t v) h.2) (forest_trees others ts h.3)))

-- the forest that words stand for
pub record Stands (g : Grammar) (ts : List ℕ) (ws : Words) : Type 0 where
  pub forest : Forest
  pub typed : OfTypes g forest ts
  pub same : written forest ≡ ws

join : {g : Grammar} {t v : ℕ} {ts : List ℕ} {u b : Words} → allowed g t v ≡ true → Stands g (children g t v) u → Stands g ts b → Stands g (t ∷ ts) (t ∷ v ∷ (u ++ b))
unfolding written
join {g} {t} {v} fine k o = record {
  forest = node t v k.forest o.forest;
  typed = (refl, fine, k.typed, o.typed);
  same = rw (k.same, o.same);
}

-- .. where shorter words stand for forests. It stands apart: as a clause of `stands`, which splits on types and words, its check took 3 seconds and 0.4 GB more
stands_node : {g : Grammar} (bound t v : ℕ) (ts : List ℕ) (ws : Words) → length ws < bound → ((xs : List ℕ) (us : Words) → length us < bound → Trees g xs us → Stands g xs us)
    → allowed g t v ≡ true → Trees g (children g t v ++ ts) ws → Stands g (t ∷ ts) (t ∷ v ∷ ws)
stands_node {g} bound t v ts ws h shorter fine r =
    let s : Split g (children g t v) ts ws = split ws (children g t v) ts r in
    let u = first g ws (length (children g t v)) in
    let b = after g ws (length (children g t v)) in
    let e : u ++ b ≡ ws = first_after g ws (length (children g t v)) in
    let l : length ws ≡ length u + length b = ap length (sym e) ∙ length-append u b in
    subst (λ us. Stands g (t ∷ ts) (t ∷ v ∷ us)) e (join fine (shorter (children g t v) u (omega arith) s.front) (shorter ts b (omega arith) s.back))

-- by the number of the words, which is under a bound
stands : {g : Grammar} (bound : ℕ) (ts : List ℕ) (ws : Words) → length ws < bound → Trees g ts ws → Stands g ts ws
unfolding written
stands zero ts ws h r = absurd (omega arith)
stands (suc bound) [] [] h r = record { forest = none; typed = tt; same = refl }
stands (suc bound) [] (w ∷ ws) h r = absurd (tells r)
stands (suc bound) (t ∷ ts) [] h r = absurd (tells r)
stands (suc bound) (t ∷ ts) (w ∷ []) h r = absurd (tells r)
stands (suc bound) (t ∷ ts) (w ∷ v ∷ ws) h r = rw (tells r).0 (stands_node bound t v ts ws (omega arith) (stands bound) (tells r).1 (tells r).2)

pub trees_forest : {g : Grammar} (ts : List ℕ) (ws : Words) → Trees g ts ws → Stands g ts ws
trees_forest ts ws r = stands (suc (length ws)) ts ws (omega arith) r

-- two lists of trees of the same types, each followed by other words: where the words are the same, so are both parts
pub trees_cancel : {g : Grammar} {ts : List ℕ} {u u' b b' : Words} → Trees g ts u → Trees g ts u' → u ++ b ≡ u' ++ b' → (u ≡ u') × (b ≡ b')
trees_cancel {g} {ts} {u} {u'} {b} {b'} p q e =
    (sym (first_append p b) ∙ ap (λ (l : Words). first g l (length ts)) e ∙ first_append q b', sym (after_append p b) ∙ ap (λ (l : Words). after g l (length ts)) e ∙ after_append q b')

pub written_alike : (g : Grammar) (f f' : Forest) (ts : List ℕ) → OfTypes g f ts → OfTypes g f' ts → written f ≡ written f' → f ≡ f'
unfolding written
written_alike g none none ts h h' e = refl
written_alike g none (node t' v' k' o') [] h h' e = absurd h'
written_alike g none (node t' v' k' o') (x ∷ ts) h h' e = absurd h
written_alike g (node t v k o) none [] h h' e = absurd h
written_alike g (node t v k o) none (x ∷ ts) h h' e = absurd h'
written_alike g (node t v k o) (node t' v' k' o') [] h h' e = absurd h
written_alike g (node t v k o) (node t' v' k' o') (x ∷ ts) h h' e =
    let et : t ≡ t' = cc in
    let ev : v ≡ v' = cc in
    let er : written k ++ written o ≡ written k' ++ written o' = cc in
    let hk : OfTypes g k' (children g x v) = subst (λ y. OfTypes g k' (children g x y)) (sym ev) h'.2 in
    let c = trees_cancel (forest_trees k (children g x v) h.2) (forest_trees k' (children g x v) hk) er in
    let ek : k ≡ k' = written_alike g k k' (children g x v) h.2 hk c.0 in
    let eo : o ≡ o' = written_alike g o o' ts h.3 h'.3 c.1 in
    rw (et, ev, ek, eo)
