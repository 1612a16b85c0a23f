-- How the typing's pairs are met: one pair at a time, the same at every position; and what each kind of pair leaves where a tree is due. Assumes nothing.
use Prim.Native.Nat.{ℕ, zero, suc, ◌+◌, ◌<◌}
use mathlib.Core.Path.{◌≡◌, refl, ap, ◌∙◌}
use mathlib.Core.List.{List, [], ◌∷◌, ◌++◌, map, map-append}
use mathlib.Core.Bool.{Bool, true, false}
use mathlib.Core.Option.{Option, some}
use native.Mathlib.Omega.{arith}
use lib.ListN.{length, get_or, replicate}
use lib.Dec.{ltb, leb, eqb}
use borrow.Author.Tests.{ltb-true, ltb-false, lt-ltb, le-ltb, eq-eqb, ne_eqb}
use Rattle.words.specs.Reader.{Words, pick, and, between, Reader, and_then, ◌>>◌, require}
use Rattle.grammar.specs.Limits.{most_types}
use Rattle.grammar.specs.Grammar.{Grammar}
use Rattle.grammar.specs.Kinds.{allowed, children}
use Rattle.tree.specs.Limits.{most_nesting}
use Rattle.tree.specs.Tree.{levels}
use Rattle.tree.specs.Dues.{Next, first_word, second_word, leaves, whole}
use Rattle.tree.specs.Reading.{tree, dues_of}
use Rattle.tree.proofs.Trees.{levels_length}
use Rattle.tree.proofs.Dues.{plain, placed, done, bind, Steady, leaves_steady, require_steady, pick_steady, exact, whole_exact, when}
use Rattle.tree.proofs.Accepted.{dues_of_append}
use Rattle.rules.specs.Limits.{most_variables, most_applications, mark_new, mark_variable, mark_chain}
use Rattle.rules.specs.Rules.{Rules}
use Rattle.judgement.specs.Wanted.{wants}
use Rattle.judgement.specs.Typing.{Place, Due, a_tree, a_chain, application_count, application, argument, Context, may_stand, usable, wanted_by, of_type, new_variable, variable, chain, node, meets}
use Rattle.judgement.specs.WellTyped.{Types}
use Rattle.judgement.specs.Tested.{has_type}

-- ONE PAIR, THE SAME AT EVERY POSITION

new_steady : (d : ℕ) (Γ : Context) (v : ℕ) → Steady (new_variable d Γ v)
unfolding new_variable
new_steady d Γ v = require_steady (eqb v d) 23 1 _ (require_steady (ltb (length Γ) most_variables) 24 1 _ (leaves_steady (Γ ++ d ∷ []) []))

of_type_steady : (Γ : Context) (v d : ℕ) (r : Reader (Next Due Context)) → Steady r → Steady (◌>>◌ (of_type Γ v d) r)
of_type_steady Γ v d r p at = go (ltb v (length Γ)) (eqb (get_or Γ v 0) d)
  where
    go : (a b : Bool) → plain (and_then (and_then (require a 22 1 at) (λ u. require b 23 1)) (λ u. r)) ≡ placed (done (and_then (and_then (require a 22 1 0) (λ u. require b 23 1)) (λ u. r))) (at + 2)
    go true true = p at
    go true false = refl
    go false b = refl

variable_steady : (d : ℕ) (Γ : Context) (v : ℕ) → Steady (variable d Γ v)
unfolding variable
variable_steady d Γ v = of_type_steady Γ v d _ (leaves_steady Γ [])

chain_steady : (d : ℕ) (Γ : Context) (v : ℕ) → Steady (chain d Γ v)
unfolding chain
chain_steady d Γ v = of_type_steady Γ v d _ (leaves_steady Γ (application_count d ∷ []))

node_steady : (g : Grammar) (n d : ℕ) (Γ : Context) (v : ℕ) → Steady (node g n d Γ v)
unfolding node
node_steady g n d Γ v = require_steady (allowed g d v) 23 1 _ (leaves_steady Γ (map a_tree (dues_of (levels g d v n) (children g d v))))

module _ (g : Grammar) (rules : Rules) (here : Place) where
  pub meets_steady : (d : Due) (Γ : Context) (t v : ℕ) → Steady (meets g rules here d Γ t v)
  unfolding meets
  meets_steady (a_tree (tree n d)) Γ t v =
      require_steady (may_stand here d t) 23 0 _
      (require_steady (leb n most_nesting) 24 0 _
      (pick_steady (eqb t d) _ _ (node_steady g n d Γ v) (pick_steady (eqb t mark_new) _ _ (new_steady d Γ v) (pick_steady (eqb t mark_variable) _ _ (variable_steady d Γ v) (chain_steady d Γ v)))))
  meets_steady a_chain Γ t v = require_steady (eqb t mark_chain) 23 0 _ (require_steady (ltb v (length Γ)) 22 1 _ (leaves_steady Γ (application_count (get_or Γ v 0) ∷ [])))
  meets_steady (application_count s) Γ t v = require_steady (between 1 most_applications t) 23 0 _ (require_steady (eqb v 0) 23 1 _ (leaves_steady Γ (replicate t (application s))))
  meets_steady (application s) Γ t v =
      require_steady (usable g rules here s t) 22 0 _ (require_steady (eqb v (length (wanted_by rules s t))) 22 1 _ (leaves_steady Γ (map argument (wanted_by rules s t))))
  meets_steady (argument w) Γ t v =
      require_steady (eqb t mark_variable) 23 0 _ (require_steady (ltb v (length Γ)) 22 1 _ (require_steady (wants g w (get_or Γ v 0)) 23 1 _ (leaves_steady Γ [])))

  -- one pair against what is due
  unfoldable pub meet : Due → Context → ℕ → ℕ → Option (Next Due Context)
  meet d Γ t v = done (meets g rules here d Γ t v 0)

  -- all the pairs against all that is due
  abbrev pub read : Words → List Due → Context → Option Context
  read ws ds Γ = exact (meets g rules here) ws ds Γ

  pub whole_read : (ws : Words) (d : Due) (Γ : Context) (at : ℕ) → plain (whole (meets g rules here) 23 ws (d ∷ []) Γ at) ≡ placed (read ws (d ∷ []) Γ) (at + length ws)
  whole_read ws d Γ at = whole_exact (meets g rules here) 23 meets_steady ws (d ∷ []) Γ at

-- WHAT A PAIR LEAVES

abbrev pub leaving : Context → List Due → Option (Next Due Context)
leaving Γ ds = some (record { known = Γ; dues = ds })

-- trees of these nestings and types
abbrev pub trees_due : List ℕ → List ℕ → List Due
trees_due ks ts = map a_tree (dues_of ks ts)

trees_due_append : (ks ls ts us : List ℕ) → length ks ≡ length ts → trees_due (ks ++ ls) (ts ++ us) ≡ trees_due ks ts ++ trees_due ls us
trees_due_append ks ls ts us h = ap (map a_tree) (dues_of_append ks ls ts us h) ∙ map-append a_tree (dues_of ks ts) (dues_of ls us)

-- a node's children are due
abbrev pub children_due : Grammar → ℕ → ℕ → Context → ℕ → Option (Next Due Context)
children_due g n d Γ v = when (allowed g d v) (leaving Γ (trees_due (levels g d v n) (children g d v)))

node_done : (g : Grammar) (n d : ℕ) (Γ : Context) (v : ℕ) → done (node g n d Γ v 0) ≡ children_due g n d Γ v
unfolding node
node_done g n d Γ v = go (allowed g d v) (trees_due (levels g d v n) (children g d v))
  where
    go : (b : Bool) (ds : List Due) → done (and_then (second_word b 23 0) (λ u. leaves Γ ds)) ≡ when b (leaving Γ ds)
    go true ds = refl
    go false ds = refl

ltb_suc : (a b : ℕ) → ltb (suc a) (suc b) ≡ ltb a b
ltb_suc a b = go (ltb a b) refl
  where
    go : (c : Bool) → ltb a b ≡ c → ltb (suc a) (suc b) ≡ c
    go true e = let h = ltb-true a b e in lt-ltb (suc a) (suc b) (omega arith)
    go false e = let h = ltb-false a b e in le-ltb (suc a) (suc b) (omega arith)

-- a variable is there, and has the type
pub has_type_eq : (Γ : Types) (x t : ℕ) → has_type Γ x t ≡ and (ltb x (length Γ)) (eqb (get_or Γ x 0) t)
unfolding has_type
has_type_eq [] x t = rw (le-ltb x 0 (omega arith))
has_type_eq (u ∷ Γ) zero t = rw (lt-ltb 0 (suc (length Γ)) (omega arith))
has_type_eq (u ∷ Γ) (suc x) t = rw (ltb_suc x (length Γ)) (has_type_eq Γ x t)

of_type_lem : (Γ : Context) (v d : ℕ) (ds : List Due) → done (and_then (of_type Γ v d 0) (λ u. leaves Γ ds)) ≡ when (has_type Γ v d) (leaving Γ ds)
of_type_lem Γ v d ds = rw (has_type_eq Γ v d) (go (ltb v (length Γ)) (eqb (get_or Γ v 0) d))
  where
    go : (a b : Bool) → done (and_then (and_then (second_word a 22 0) (λ u. second_word b 23)) (λ u. leaves Γ ds)) ≡ when (and a b) (leaving Γ ds)
    go true true = refl
    go true false = refl
    go false b = refl

variable_done : (Γ : Context) (v d : ℕ) → done (variable d Γ v 0) ≡ when (has_type Γ v d) (leaving Γ [])
unfolding variable
variable_done Γ v d = of_type_lem Γ v d []

chain_done : (Γ : Context) (v d : ℕ) → done (chain d Γ v 0) ≡ when (has_type Γ v d) (leaving Γ (application_count d ∷ []))
unfolding chain
chain_done Γ v d = of_type_lem Γ v d (application_count d ∷ [])

new_done : (Γ : Context) (v d : ℕ) → done (new_variable d Γ v 0) ≡ when (eqb v d) (when (ltb (length Γ) most_variables) (leaving (Γ ++ d ∷ []) []))
unfolding new_variable
new_done Γ v d = go (eqb v d) (ltb (length Γ) most_variables)
  where
    go : (a b : Bool) → done (and_then (second_word a 23 0) (λ u. ◌>>◌ (second_word b 24) (leaves (Γ ++ d ∷ []) []))) ≡ when a (when b (leaving (Γ ++ d ∷ []) []))
    go true true = refl
    go true false = refl
    go false b = refl

-- WHERE A TREE IS DUE

module _ (g : Grammar) (rules : Rules) (here : Place) (n d : ℕ) (Γ : Context) (t v : ℕ) where
  abbrev pub shallow : Bool
  shallow = leb n most_nesting

  tree_meet : meet g rules here (a_tree (tree n d)) Γ t v
      ≡ when (may_stand here d t) (when shallow (pick (eqb t d) (done (node g n d Γ v 0))
      (pick (eqb t mark_new) (done (new_variable d Γ v 0)) (pick (eqb t mark_variable) (done (variable d Γ v 0)) (done (chain d Γ v 0))))))
  unfolding meet meets
  tree_meet = go (may_stand here d t) shallow (eqb t d) (eqb t mark_new) (eqb t mark_variable)
    where
      go : (a b c e f : Bool) → done (and_then (first_word a 23 0) (λ u. ◌>>◌ (first_word b 24) (pick c (node g n d Γ v) (pick e (new_variable d Γ v) (pick f (variable d Γ v) (chain d Γ v))))))
          ≡ when a (when b (pick c (done (node g n d Γ v 0)) (pick e (done (new_variable d Γ v 0)) (pick f (done (variable d Γ v 0)) (done (chain d Γ v 0))))))
      go true true true e f = refl
      go true true false true f = refl
      go true true false false true = refl
      go true true false false false = refl
      go true false c e f = refl
      go false b c e f = refl

  -- where only a node may stand
  pub node_meet : may_stand here d t ≡ eqb t d → meet g rules here (a_tree (tree n d)) Γ t v ≡ when (eqb t d) (when shallow (children_due g n d Γ v))
  node_meet e = tree_meet ∙ rw (e, node_done g n d Γ v) (go (eqb t d) shallow (children_due g n d Γ v) _)
    where
      go : (b c : Bool) (x y : Option (Next Due Context)) → when b (when c (pick b x y)) ≡ when b (when c x)
      go true c x y = refl
      go false c x y = refl

  module _ (low : d < most_types) (stands : may_stand here d t ≡ true) where
    pub new_meet : t ≡ mark_new → meet g rules here (a_tree (tree n d)) Γ t v ≡ when shallow (when (eqb v d) (when (ltb (length Γ) most_variables) (leaving (Γ ++ d ∷ []) [])))
    new_meet e = tree_meet ∙ rw (stands, ne_eqb t d (λ q. omega arith), eq-eqb t mark_new e, new_done Γ v d)

    pub variable_meet : t ≡ mark_variable → meet g rules here (a_tree (tree n d)) Γ t v ≡ when shallow (when (has_type Γ v d) (leaving Γ []))
    variable_meet e = tree_meet ∙ rw (stands, ne_eqb t d (λ q. omega arith), ne_eqb t mark_new (λ q. omega arith), eq-eqb t mark_variable e, variable_done Γ v d)

    pub chain_meet : t ≡ mark_chain → meet g rules here (a_tree (tree n d)) Γ t v ≡ when shallow (when (has_type Γ v d) (leaving Γ (application_count d ∷ [])))
    chain_meet e = tree_meet ∙ rw (stands, ne_eqb t d (λ q. omega arith), ne_eqb t mark_new (λ q. omega arith), ne_eqb t mark_variable (λ q. omega arith), chain_done Γ v d)

-- one node on
pub after_node : (g : Grammar) (rules : Rules) (here : Place) (ws : Words) (Γ : Context) (n d v : ℕ) (ks ts : List ℕ) (b : Bool)
    → bind (when b (children_due g n d Γ v)) (λ s. read g rules here ws (s.dues ++ trees_due ks ts) s.known)
    ≡ when b (when (allowed g d v) (read g rules here ws (trees_due (levels g d v n ++ ks) (children g d v ++ ts)) Γ))
after_node g rules here ws Γ n d v ks ts b = rw (trees_due_append (levels g d v n) ks (children g d v) ts (levels_length g d v n)) (go b (allowed g d v))
  where
    go : (b c : Bool) → bind (when b (when c (leaving Γ (trees_due (levels g d v n) (children g d v))))) (λ s. read g rules here ws (s.dues ++ trees_due ks ts) s.known)
        ≡ when b (when c (read g rules here ws (trees_due (levels g d v n) (children g d v) ++ trees_due ks ts) Γ))
    go true true = refl
    go true false = refl
    go false c = refl
