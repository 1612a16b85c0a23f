-- A replacement's pairs are accepted exactly if its pieces stand for a tree of the type due, within the limits. Assumes nothing.
use Prim.Native.Nat.{ℕ, zero, suc, ◌+◌, ◌*◌, ◌≤◌, ◌<◌, max}
use mathlib.Core.Path.{◌≡◌, refl, sym, ap, ◌∙◌}
use mathlib.Core.List.{List, [], ◌∷◌, ◌++◌}
use mathlib.Core.Bool.{Bool, true, false, ◌&&◌}
use mathlib.Core.Option.{Option, none, some}
use native.Mathlib.Omega.{arith}
use lib.ListN.{length, drop, length-drop}
use lib.Seq.{drop-nil}
use lib.Dec.{leb, eqb}
use borrow.Author.Tests.{eqb-true}
use Rattle.words.specs.Reader.{Words, pick, and}
use Rattle.words.proofs.Laws.{or_true, or_false}
use Rattle.grammar.specs.Limits.{most_types}
use Rattle.grammar.specs.Grammar.{Grammar}
use Rattle.grammar.specs.Kinds.{allowed, children}
use Rattle.tables.proofs.Bounded.{Low, low_append, Bounded}
use Rattle.tree.specs.Limits.{most_nesting}
use Rattle.tree.specs.Tree.{levels}
use Rattle.tree.specs.Dues.{Next, whole}
use Rattle.tree.specs.Reading.{tree, dues_of}
use Rattle.tree.proofs.Trees.{Even, no_odd, even_tail, more_length}
use Rattle.tree.proofs.Dues.{plain, placed, bind, when, bind_when, when_never, exact}
use Rattle.tree.proofs.Accepted.{leb_max}
use Rattle.rules.specs.Limits.{most_rules, mark_variable, mark_chain}
use Rattle.rules.specs.Rules.{Rules, Piece, write, copy, chain, pairs_in, chain_of, pieces_after, pieces}
use Rattle.judgement.specs.Typing.{in_replacement, Due, a_tree, application_count, Context, may_stand, meets}
use Rattle.judgement.specs.WellTyped.{replacing, piece_nesting}
use Rattle.judgement.specs.Tested.{has_type, all_apply_of, pieces_of, one_replacement}
use Rattle.judgement.proofs.Accept.{meet, read, whole_read, leaving, trees_due, children_due, node_meet, variable_meet, chain_meet, after_node}
use Rattle.judgement.proofs.Chains.{chain_exact}

-- THE PIECES BEHIND A CHAIN

pub pieces_after_lem : (skip : ℕ) (ws : Words) → pieces_after skip ws ≡ pieces (drop (2 * skip) ws)
unfolding pieces_after pieces
pieces_after_lem zero ws = refl
pieces_after_lem (suc skip) [] = rw (drop-nil {A = ℕ} (2 * suc skip))
pieces_after_lem (suc skip) (t ∷ []) = let z : 2 * suc skip ≡ suc (suc (2 * skip)) = omega arith in rw z
pieces_after_lem (suc skip) (t ∷ v ∷ ws) = let z : 2 * suc skip ≡ suc (suc (2 * skip)) = omega arith in rw z (pieces_after_lem skip ws)

even_drop : (n : ℕ) (ws : Words) → Even ws → Even (drop (2 * n) ws)
even_drop zero ws e = e
even_drop (suc n) [] e = rw (drop-nil {A = ℕ} (2 * suc n)) e
even_drop (suc n) (t ∷ []) e = absurd (no_odd t e)
even_drop (suc n) (t ∷ v ∷ ws) e = let z : 2 * suc n ≡ suc (suc (2 * n)) = omega arith in rw z (even_drop n ws (even_tail t v ws e))

-- WHAT IS ACCEPTED

-- the pieces that the pairs from (t, v) on stand for
abbrev pieces_from : Bool → Bool → ℕ → ℕ → Words → List Piece
pieces_from is_chain is_variable t v ws =
    elim is_chain as (λ x. List Piece) [
      | true ↦ chain v (chain_of ws) ∷ pieces_after (1 + pairs_in (chain_of ws)) ws
      | false ↦ pick is_variable (copy v) (write t v) ∷ pieces_after 0 ws
    ]

module _ (g : Grammar) (rules : Rules) (bounded : Bounded g) (few : length rules ≤ most_rules) where
  -- the variables, if the pieces stand for trees of the types at the nestings
  abbrev answer : List Piece → List ℕ → List ℕ → Context → Option Context
  answer ps ks ts Γ = when (and (leb (piece_nesting g ps ks) most_nesting) (pieces_of g rules Γ ps ts)) (some Γ)

  -- for all words that are no longer than n: behind a chain they are fewer by any number
  abbrev Exact : ℕ → Type 0
  Exact n = (ws : Words) → length ws ≤ n → Even ws → (ks ts : List ℕ) (Γ : Context) → length ks ≡ length ts → Low ts → read g rules in_replacement ws (trees_due ks ts) Γ ≡ answer (pieces ws) ks ts Γ

  step : (n t v : ℕ) (ws : Words) (k d : ℕ) (ks ts : List ℕ) (Γ : Context) → length ws ≤ n → Even ws → length ks ≡ length ts → d < most_types → Low ts → Exact n
      → bind (meet g rules in_replacement (a_tree (tree k d)) Γ t v) (λ s. read g rules in_replacement ws (s.dues ++ trees_due ks ts) s.known)
      ≡ answer (pieces_from (eqb t mark_chain) (eqb t mark_variable) t v ws) (k ∷ ks) (d ∷ ts) Γ
  unfolding piece_nesting pieces_of may_stand
  step n t v ws k d ks ts Γ size ev h ld low ih = go (eqb t mark_chain) (eqb t mark_variable) refl refl
    where
      rest : Next Due Context → Option Context
      rest s = read g rules in_replacement ws (s.dues ++ trees_due ks ts) s.known

      top : Bool
      top = leb k most_nesting

      -- behind a chain
      far : Words
      far = drop (2 + 2 * pairs_in (chain_of ws)) ws

      twice : 2 * (1 + pairs_in (chain_of ws)) ≡ 2 + 2 * pairs_in (chain_of ws)
      twice = omega arith

      after : pieces_after (1 + pairs_in (chain_of ws)) ws ≡ pieces far
      after = pieces_after_lem (1 + pairs_in (chain_of ws)) ws ∙ ap (λ k. pieces (drop k ws)) twice

      behind : read g rules in_replacement far (trees_due ks ts) Γ ≡ answer (pieces far) ks ts Γ
      behind = ih far (omega (arith, length-drop (2 + 2 * pairs_in (chain_of ws)) ws)) (rw twice at (even_drop (1 + pairs_in (chain_of ws)) ws ev)) ks ts Γ h low

      -- behind a node or a variable
      next : (ks ts : List ℕ) → length ks ≡ length ts → Low ts → read g rules in_replacement ws (trees_due ks ts) Γ ≡ answer (pieces_after 0 ws) ks ts Γ
      next ks ts h low = ih ws size ev ks ts Γ h low ∙ ap (λ ps. answer ps ks ts Γ) (sym (pieces_after_lem 0 ws))

      inner : ℕ → ℕ
      inner d = piece_nesting g (pieces_after 0 ws) (levels g d v k ++ ks)

      three : (a h p b q : Bool) → when a (when h (when p (when (and b q) (some Γ)))) ≡ when (and (and a b) (h && (p && q))) (some Γ)
      three false h p b q = refl
      three true false p true q = refl
      three true false p false q = refl
      three true true false true q = refl
      three true true false false q = refl
      three true true true b q = refl

      two : (a h b q : Bool) → when a (when h (when (and b q) (some Γ))) ≡ when (and (and a b) (h && q)) (some Γ)
      two false h b q = refl
      two true false true q = refl
      two true false false q = refl
      two true true b q = refl

      is_node : (c : Bool) → eqb t d ≡ c → bind (when c (when top (children_due g k d Γ v))) rest
          ≡ when (and (leb (max k (inner t)) most_nesting) (c && (allowed g t v && pieces_of g rules Γ (pieces_after 0 ws) (children g t v ++ ts)))) (some Γ)
      is_node true e =
          rw (eqb-true t d e, leb_max k (inner d) most_nesting)
          (after_node g rules in_replacement ws Γ k d v ks ts top
          ∙ ap (λ o. when top (when (allowed g d v) o))
          (next (levels g d v k ++ ks) (children g d v ++ ts) (more_length g d v k ks ts h) (low_append (children g d v) ts (bounded.closed d v ld) low))
          ∙ two top (allowed g d v) (leb (inner d) most_nesting) (pieces_of g rules Γ (pieces_after 0 ws) (children g d v ++ ts)))
      is_node false e = when_never (leb (max k (inner t)) most_nesting) (some Γ)

      go : (a b : Bool) → eqb t mark_chain ≡ a → eqb t mark_variable ≡ b → bind (meet g rules in_replacement (a_tree (tree k d)) Γ t v) rest ≡ answer (pieces_from a b t v ws) (k ∷ ks) (d ∷ ts) Γ
      go true b p q =
          rw (chain_meet g rules in_replacement k d Γ t v ld (rw (p, or_true (eqb t mark_variable)) (or_true (eqb t d))) (eqb-true t mark_chain p), after, leb_max k (piece_nesting g (pieces far) ks) most_nesting)
          (bind_when top (when (has_type Γ v d) (leaving Γ (application_count d ∷ []))) rest
          ∙ ap (when top) (bind_when (has_type Γ v d) (leaving Γ (application_count d ∷ [])) rest
          ∙ ap (when (has_type Γ v d)) (chain_exact g rules in_replacement replacing tt few d ws (trees_due ks ts) Γ ∙ ap (when (all_apply_of g rules Γ replacing d (chain_of ws))) behind))
          ∙ three top (has_type Γ v d) (all_apply_of g rules Γ replacing d (chain_of ws)) (leb (piece_nesting g (pieces far) ks) most_nesting) (pieces_of g rules Γ (pieces far) ts))
      go false true p q =
          rw (variable_meet g rules in_replacement k d Γ t v ld (rw q (or_true (eqb t d))) (eqb-true t mark_variable q), leb_max k (piece_nesting g (pieces_after 0 ws) ks) most_nesting)
          (bind_when top (when (has_type Γ v d) (leaving Γ [])) rest ∙ ap (when top) (bind_when (has_type Γ v d) (leaving Γ []) rest ∙ ap (when (has_type Γ v d)) (next ks ts h low))
          ∙ two top (has_type Γ v d) (leb (piece_nesting g (pieces_after 0 ws) ks) most_nesting) (pieces_of g rules Γ (pieces_after 0 ws) ts))
      go false false p q = rw (node_meet g rules in_replacement k d Γ t v (rw (p, q) (sym (or_false (eqb t d))))) (is_node (eqb t d) refl)

  ends : (ks ts : List ℕ) (Γ : Context) → length ks ≡ length ts → read g rules in_replacement [] (trees_due ks ts) Γ ≡ answer (pieces []) ks ts Γ
  unfolding exact dues_of pieces pieces_after piece_nesting pieces_of
  ends [] [] Γ h = refl
  ends [] (t ∷ ts) Γ h = absurd (omega arith)
  ends (k ∷ ks) [] Γ h = absurd (omega arith)
  ends (k ∷ ks) (t ∷ ts) Γ h = refl

  left_over : (w v : ℕ) (ws : Words) (Γ : Context) → none ≡ answer (pieces (w ∷ v ∷ ws)) [] [] Γ
  unfolding pieces pieces_after piece_nesting pieces_of
  left_over w v ws Γ = go (eqb w mark_chain)
    where
      go : (a : Bool) → none ≡ answer (pieces_from a (eqb w mark_variable) w v ws) [] [] Γ
      go true = refl
      go false = refl

  replacement_exact : (n : ℕ) → Exact n
  unfolding exact meet dues_of pieces pieces_after
  replacement_exact zero [] s ev ks ts Γ h low = ends ks ts Γ h
  replacement_exact zero (w ∷ ws) s ev ks ts Γ h low = absurd (omega arith)
  replacement_exact (suc n) [] s ev ks ts Γ h low = ends ks ts Γ h
  replacement_exact (suc n) (w ∷ []) s ev ks ts Γ h low = absurd (no_odd w ev)
  replacement_exact (suc n) (w ∷ v ∷ ws) s ev [] [] Γ h low = left_over w v ws Γ
  replacement_exact (suc n) (w ∷ v ∷ ws) s ev [] (t ∷ ts) Γ h low = absurd (omega arith)
  replacement_exact (suc n) (w ∷ v ∷ ws) s ev (k ∷ ks) [] Γ h low = absurd (omega arith)
  replacement_exact (suc n) (w ∷ v ∷ ws) s ev (k ∷ ks) (t ∷ ts) Γ h low = step n w v ws k t ks ts Γ (omega arith) (even_tail w v ws ev) (omega arith) low.0 low.1 (replacement_exact n)

  -- the pairs of a replacement against the type due
  pub replacement_whole : (ws : Words) (t : ℕ) (Γ : Context) (at : ℕ) → Even ws → t < most_types
      → plain (whole (meets g rules in_replacement) 23 ws (a_tree (tree 1 t) ∷ []) Γ at) ≡ placed (when (one_replacement g rules Γ (pieces ws) t) (some Γ)) (at + length ws)
  unfolding one_replacement dues_of
  replacement_whole ws t Γ at ev lt =
      whole_read g rules in_replacement ws (a_tree (tree 1 t)) Γ at ∙ ap (λ o. placed o (at + length ws)) (replacement_exact (length ws) ws (omega arith) ev (1 ∷ []) (t ∷ []) Γ refl (lt, tt))
