-- The loop that fills a replacement, and the chains in it: what was filled so far, and the definition at what is left. Assumes nothing.
use Rattle.sequences.proofs.Sealing.{ok_is}
use Rattle.rewrite.specs.Arena.{Within}
use Prim.Native.Nat.{ℕ, ◌+◌, ◌*◌, ◌<◌, ◌≤◌, ◌^◌}
use mathlib.Core.Path.{◌≡◌, refl, sym, ap, ap₂, ◌∙◌, subst}
use mathlib.Core.List.{List, [], ◌∷◌, ◌++◌, append_assoc, append-nil}
use mathlib.Core.Bool.{Bool, true, false}
use mathlib.Core.Option.{some}
use native.Mathlib.Omega.{arith}
use native.Mathlib.Nat.{add-zero}
use lib.ListN.{length, get_or, take, drop, get_elem?, length-take, length-drop, length-append}
use lib.Seq.{take_at, drop_at, take-add, drop-drop, get_or-drop, length-take-le}
use lib.Dec.{eqb, leb}
use borrow.Author.Tests.{eq-eqb, ne_eqb, leb-true, leb-false}
use Rattle.words.specs.Reader.{Words, pick, and, between}
use Rattle.words.proofs.Laws.{and_both}
use Rattle.words.proofs.Stretches.{drop_pair}
use Rattle.grammar.specs.Grammar.{Grammar}
use Rattle.tree.specs.Limits.{most_nodes}
use Rattle.tree.specs.Tree.{size}
use Rattle.rules.specs.Limits.{most_applications, mark_variable, mark_chain}
use Rattle.rules.specs.Rules as Rules
use Rattle.rules.specs.Rules.{Piece, write, copy, chain, Application, applications, pairs_in, chain_written, unreadable, chain_of, pieces_after, pieces}
use Rattle.meaning.specs.Limits.{most_live}
use Rattle.meaning.specs.declared.State.{State}
use Rattle.std.specs.Prelude.{Result, Ok, Err}
use Rattle.meaning.specs.Computation as Computation
use Rattle.meaning.specs.Computation.{ok, stop, stuck, Comp, then_of, ◌>>=◌, ◌>>◌, return, stop_unless, present, nodes_within, live_within}
use Rattle.meaning.specs.Meaning.{Env, Bindings, live, variable, variables, apply, apply_chain, fill, calls}
use Rattle.marks.specs.Marked.{Stands, UnderWay, nothing, written}
use Rattle.marks.proofs.Laying.{under_tree, under_append}
use Rattle.rewrite.specs.Vars.{starts_of, start_at}
use Rattle.rewrite.specs.Arena.{NodesAt, within_limits, Standing, Says}
use Rattle.rules.specs.Views.{pairs_at}
use Rattle.calls.specs.Engine.{Open, Room, Held, Given, Setting, Sure, Tree, chain_at, chain_piece, Chains, FillsChain, Fills}
use Rattle.calls.specs.declared.Built.{Built}
use Rattle.calls.specs.declared.Chained.{Chained}
use Rattle.rewrite.proofs.Standing.{take_less, stretch_kept, tree_length, stands_whole}
use Rattle.calls.proofs.Frames.{env_up, env_kept, held_kept}
use Rattle.rewrite.proofs.Leaves.{variable_stands}
use Rattle.calls.proofs.Going.{and_nodes, and_is, ok_err, err_ok, err_is, nodes_over, then_ok, then_stop, sure_first, sure_as, variable_sure, live_fits, live_over, nodes_fit, says_ok, says_stop, stop_says, then_nested}
use Rattle.judgement.proofs.Replacements.{pieces_after_lem}

-- WORDS PUSHED

module _ (w w' x : Words) (to n : ℕ) (l : length x ≡ n) (fits : to + n ≤ length w) (e : w' ≡ take to w ++ (x ++ drop (to + n) w)) where
  pub pushed_kept : take to w' ≡ take to w
  pushed_kept = ap (take to) e ∙ take_at (take to w) (x ++ drop (to + n) w) to (length-take-le to w (omega arith))

  pub pushed_there : take n (drop to w') ≡ x
  pushed_there = ap (λ y. take n (drop to y)) e ∙ ap (take n) (drop_at (take to w) (x ++ drop (to + n) w) to (length-take-le to w (omega arith))) ∙ take_at x (drop (to + n) w) n l

-- a tree that stands below is pushed
module _ {g : Grammar} {t : Words} (w w' : Words) (a start m to : ℕ) (s : Stands g (take a w) start t) (em : m ≡ size t) (fits : to + 2 * m ≤ length w)
    (e : w' ≡ take to w ++ (take (2 * m) (drop start w) ++ drop (to + 2 * m) w)) where
  tree_long : length t ≡ 2 * m
  tree_long = omega (arith, tree_length s.tree)

  part_long : length (take (2 * m) (drop start w)) ≡ 2 * m
  part_long = omega (arith, length-take (2 * m) (drop start w), length-drop start w, (stands_whole w a s).inside, tree_long)

  pub tree_kept : take to w' ≡ take to w
  tree_kept = pushed_kept w w' (take (2 * m) (drop start w)) to (2 * m) part_long fits e

  pub tree_pushed : Standing g w' to m s.type t
  tree_pushed = record {
    tree = s.tree;
    nodes = sym em;
    words = pushed_there w w' (take (2 * m) (drop start w)) to (2 * m) part_long fits e ∙ ap (λ k. take k (drop start w)) (sym tree_long) ∙ (stands_whole w a s).words;
  }

-- THE LIMITS

pub limits_told : (a c : ℕ) {u : Unit {0}} → within_limits a c ≡ Ok u → (a ≤ most_nodes) × (c ≤ most_live)
limits_told a c {u} h = go (leb a most_nodes) (leb c most_live) refl refl h
  where
    go : (p q : Bool) → leb a most_nodes ≡ p → leb c most_live ≡ q → ◌≡◌ {A = Result (Unit {0}) ℕ} (pick p (pick q (Ok tt) (Err 44)) (Err 42)) (Ok u) → (a ≤ most_nodes) × (c ≤ most_live)
    go true true p q h = (leb-true a most_nodes p, leb-true c most_live q)
    go true false p q h = absurd (err_ok h)
    go false b p q h = absurd (err_ok h)

-- what is no stop passes
pub passes : (s : Result (Unit {0}) ℕ) → ((k : ℕ) → s ≡ Err k → ⊥) → s ≡ Ok tt
passes (Ok u) h = refl
passes (Err k) h = absurd (h k refl)

-- both, the nodes of the tree first
module _ {B : Type 0} (a c : ℕ) (l : State) (s : Result (Unit {0}) ℕ) (k : Comp B) (e : s ≡ within_limits a c) where
  pub limits_fit : {u : Unit {0}} → s ≡ Ok u → then_of (nodes_within a l) (λ z. ◌>>◌ (live_within c) k) ≡ k l
  limits_fit h =
      let f = limits_told a c (sym e ∙ h) in
      nodes_fit a l (λ z. ◌>>◌ (live_within c) k) f.0 ∙ live_fits c l (λ z. k) f.1

  pub limits_stop : {j : ℕ} → s ≡ Err j → then_of (nodes_within a l) (λ z. ◌>>◌ (live_within c) k) ≡ stop j l
  unfolding then_of nodes_within live_within stop_unless
  limits_stop {j} h = go (leb a most_nodes) (leb c most_live) (sym e ∙ h)
    where
      go : (p q : Bool) → ◌≡◌ {A = Result (Unit {0}) ℕ} (pick p (pick q (Ok tt) (Err 44)) (Err 42)) (Err j) → then_of (stop_unless 42 p l) (λ z. ◌>>◌ (stop_unless 44 q) k) ≡ stop j l
      go true true e = absurd (ok_err e)
      go true false e = ap (λ x. stop x l) (err_is e)
      go false q e = ap (λ x. stop x l) (err_is e)

-- PIECES

pieces_none : (ws : Words) → length ws < 2 → pieces ws ≡ []
unfolding pieces pieces_after
pieces_none [] h = refl
pieces_none (t ∷ []) h = refl
pieces_none (t ∷ v ∷ ws) h = absurd (omega arith)

-- no pair is left
pub pieces_end_lem : (ps : Words) (i : ℕ) → length ps < i + 2 → pieces (drop i ps) ≡ []
pieces_end_lem ps i h = pieces_none (drop i ps) (omega (arith, length-drop i ps))

-- by the first pair
pieces_pair : (t v : ℕ) (ws : Words)
    → pieces (t ∷ v ∷ ws) ≡ pick (eqb t mark_chain) (chain v (chain_of ws) ∷ pieces_after (1 + pairs_in (chain_of ws)) ws) (pick (eqb t mark_variable) (copy v) (write t v) ∷ pieces ws)
unfolding pieces pieces_after
pieces_pair t v ws = go (eqb t mark_chain)
  where
    go : (b : Bool)
        → elim b as (λ x. List Piece) [ true ↦ chain v (chain_of ws) ∷ pieces_after (1 + pairs_in (chain_of ws)) ws | false ↦ pick (eqb t mark_variable) (copy v) (write t v) ∷ pieces_after 0 ws ]
        ≡ pick b (chain v (chain_of ws) ∷ pieces_after (1 + pairs_in (chain_of ws)) ws) (pick (eqb t mark_variable) (copy v) (write t v) ∷ pieces_after 0 ws)
    go true = refl
    go false = refl

-- the pair at i
module _ (ps : Words) (i : ℕ) (h : i + 2 ≤ length ps) where
  pair_here : pieces (drop i ps) ≡ pick (eqb (get_or ps i 0) mark_chain) (chain (get_or ps (i + 1) 0) (chain_of (drop (i + 2) ps)) ∷ pieces_after (1 + pairs_in (chain_of (drop (i + 2) ps))) (drop (i + 2) ps))
      (pick (eqb (get_or ps i 0) mark_variable) (copy (get_or ps (i + 1) 0)) (write (get_or ps i 0) (get_or ps (i + 1) 0)) ∷ pieces (drop (i + 2) ps))
  pair_here = ap pieces (drop_pair ps i h) ∙ pieces_pair (get_or ps i 0) (get_or ps (i + 1) 0) (drop (i + 2) ps)

  pub pieces_write : (get_or ps i 0 ≡ mark_chain → ⊥) → (get_or ps i 0 ≡ mark_variable → ⊥) → pieces (drop i ps) ≡ write (get_or ps i 0) (get_or ps (i + 1) 0) ∷ pieces (drop (i + 2) ps)
  pieces_write c x = pair_here ∙ rw (ne_eqb (get_or ps i 0) mark_chain c, ne_eqb (get_or ps i 0) mark_variable x)

  pub pieces_copy : (get_or ps i 0 ≡ mark_chain → ⊥) → get_or ps i 0 ≡ mark_variable → pieces (drop i ps) ≡ copy (get_or ps (i + 1) 0) ∷ pieces (drop (i + 2) ps)
  pieces_copy c x = pair_here ∙ rw (ne_eqb (get_or ps i 0) mark_chain c, eq-eqb (get_or ps i 0) mark_variable x)

  pub pieces_chain : get_or ps i 0 ≡ mark_chain
      → pieces (drop i ps) ≡ chain (get_or ps (i + 1) 0) (chain_of (drop (i + 2) ps)) ∷ pieces (drop (i + 4 + 2 * pairs_in (chain_of (drop (i + 2) ps))) ps)
  pieces_chain c =
      let p : ℕ = pairs_in (chain_of (drop (i + 2) ps)) in
      let z : i + 2 + 2 * (1 + p) ≡ i + 4 + 2 * p = omega arith in
      pair_here ∙ rw (eq-eqb (get_or ps i 0) mark_chain c) (ap (λ l. chain (get_or ps (i + 1) 0) (chain_of (drop (i + 2) ps)) ∷ l) (pieces_after_lem (1 + p) (drop (i + 2) ps) ∙ ap pieces (drop-drop (2 * (1 + p)) (i + 2) ps ∙ ap (λ k. drop k ps) z)))

-- A CHAIN AS IT IS WRITTEN

written_few : (ws : Words) → chain_written ws ≡ true → leb (get_or ws 0 0) most_applications ≡ true
unfolding chain_written
written_few [] h = let z : ◌≡◌ {A = ℕ} 0 1 = cc in absurd (omega arith)
written_few (k ∷ []) h = let z : ◌≡◌ {A = ℕ} 0 1 = cc in absurd (omega arith)
written_few (k ∷ z ∷ ws) h =
    let a = and_both (between 1 most_applications k) (and (eqb z 0) (Rules.applications_written k ws)) h in
    (and_both (leb 1 k) (leb k most_applications) a.0).1

chain_written_lem : (ps : Words) (from : ℕ) → chain_written (drop from ps) ≡ true → chain_of (drop from ps) ≡ chain_at ps from
unfolding chain_of
chain_written_lem ps from h =
    let e : get_or (drop from ps) 0 0 ≡ get_or ps from 0 = get_or-drop from ps 0 0 ∙ ap (λ k. get_or ps k 0) (add-zero from) in
    let f : leb (get_or ps from 0) most_applications ≡ true = ap (λ k. leb k most_applications) (sym e) ∙ written_few (drop from ps) h in
    rw (h, chain_of) (ap₂ applications (e ∙ rw f) (drop-drop 2 from ps))

chain_unwritten : (ws : Words) → chain_written ws ≡ false → chain_of ws ≡ unreadable
unfolding chain_of
chain_unwritten ws h = rw (h, chain_of)

-- COMPUTATIONS ONE AFTER THE OTHER

then_stuck : {A B : Type 0} (m : Computation.Result A) (k : A → Comp B) → m ≡ stuck → then_of m k ≡ stuck
unfolding then_of
then_stuck m k e = rw e

then_all : (m : Computation.Result Words) → then_of m (λ ws. return ws) ≡ m
unfolding then_of
then_all (ok a l) = refl
then_all (stop n l) = refl
then_all stuck = refl

-- words put before what a computation gives
then_before : (m : Computation.Result Words) (a b : Words) → then_of (then_of m (λ ws. return (b ++ ws))) (λ ws. return (a ++ ws)) ≡ then_of m (λ ws. return (a ++ b ++ ws))
then_before m a b = then_nested m (λ ws. return (b ++ ws)) (λ ws. return (a ++ ws)) (λ ws. return (a ++ b ++ ws)) (λ ws l. then_ok (ok (b ++ ws) l) (λ us. return (a ++ us)) (b ++ ws) l refl ∙ ap (λ us. ok us l) (sym (append_assoc a b ws)))

module _ {B : Type 0} (env : Env) (x : ℕ) (l : State) (k : Words → Comp B) where
  variable_there_lem : (t : Words) → get_elem? env x ≡ some t → then_of (variable env x l) k ≡ k t l
  unfolding then_of variable present
  variable_there_lem t e = rw e

-- ONE STEP OF A REPLACEMENT

module _ (g : Grammar) (rules : Rules.Rules) (deep : ℕ) (env : Env) (besides : ℕ) where
  abbrev pub filled : List Piece → ℕ → State → Computation.Result Words
  filled ps n l = fill true g rules (calls true g rules deep) ps env besides n l

  -- what is left goes on after some words
  abbrev pub onward : Words → List Piece → ℕ → State → Computation.Result Words
  onward ws ps n l = then_of (filled ps n l) (λ us. return (ws ++ us))

  pub fill_end : (n : ℕ) (l : State) → filled [] n l ≡ ok [] l
  unfolding fill
  fill_end n l = refl

  module _ (ps : List Piece) (n : ℕ) (l : State) where
    pub write_fits : (t v : ℕ) (s : Result (Unit {0}) ℕ) {u : Unit {0}} → s ≡ within_limits (n + 1) (besides + n + 1) → s ≡ Ok u → filled (write t v ∷ ps) n l ≡ onward (t ∷ v ∷ []) ps (n + 1) l
    unfolding fill
    write_fits t v s e h = limits_fit (n + 1) (besides + n + 1) l s (λ l. onward (t ∷ v ∷ []) ps (n + 1) l) e h

    pub write_stops : (t v : ℕ) (s : Result (Unit {0}) ℕ) {j : ℕ} → s ≡ within_limits (n + 1) (besides + n + 1) → s ≡ Err j → filled (write t v ∷ ps) n l ≡ stop j l
    unfolding fill
    write_stops t v s e h = limits_stop (n + 1) (besides + n + 1) l s (λ l. onward (t ∷ v ∷ []) ps (n + 1) l) e h

    pub copy_there : (x : ℕ) → Sure (filled (copy x ∷ ps) n l) → (t : Words) × (get_elem? env x ≡ some t)
    unfolding fill
    copy_there x s = let v = variable_sure env x l _ s in (v.0, v.1)

    module _ (x : ℕ) (t : Words) (there : get_elem? env x ≡ some t) (s : Result (Unit {0}) ℕ) (e : s ≡ within_limits (n + size t) (besides + n + size t)) where
      pub copy_fits : {u : Unit {0}} → s ≡ Ok u → filled (copy x ∷ ps) n l ≡ onward t ps (n + size t) l
      unfolding fill
      copy_fits h = variable_there_lem env x l _ t there ∙ limits_fit (n + size t) (besides + n + size t) l s (λ l. onward t ps (n + size t) l) e h

      pub copy_stops : {j : ℕ} → s ≡ Err j → filled (copy x ∷ ps) n l ≡ stop j l
      unfolding fill
      copy_stops h = variable_there_lem env x l _ t there ∙ limits_stop (n + size t) (besides + n + size t) l s (λ l. onward t ps (n + size t) l) e h

  abbrev chained : ℕ → List Application → ℕ → State → Computation.Result Words
  chained x apps n l = chain_piece deep x apps g rules env besides n l

  fill_chain : (x : ℕ) (apps : List Application) (ps : List Piece) (n : ℕ) (l : State) → then_of (chained x apps n l) (λ u. onward u ps (n + size u)) ≡ filled (chain x apps ∷ ps) n l
  unfolding fill
  fill_chain x apps ps n l =
      then_nested (variable env x l) _ _ _ (λ t l. then_nested (live_within (besides + n + size t) l) _ _ _ (λ z l. then_nested (apply_chain true g rules (calls true g rules deep) apps env t (besides + n) n l) _ _ _
      (λ u l. then_nested (nodes_within (n + size u) l) _ _ _ (λ z l. then_ok (ok u l) _ u l refl))))

  never_applied : (t : Words) (n under : ℕ) (l : State) → apply_chain true g rules (calls true g rules deep) unreadable env t n under l ≡ stuck
  unfolding apply_chain apply variables unreadable then_of
  never_applied t n under l = refl

  -- a chain that is not written as one is never applied: it stops before
  module _ (x from n : ℕ) (l : State) (ws : Words) (sure : Sure (chained x (chain_of (drop from ws)) n l)) where
    chain_read : (chained x (chain_at ws from) n l ≡ chained x (chain_of (drop from ws)) n l) × ((u : Words) (now : State) → chained x (chain_at ws from) n l ≡ ok u now → chain_of (drop from ws) ≡ chain_at ws from)
    chain_read = go (chain_written (drop from ws)) refl
      where
        over : (t : Words) (apps : List Application) → get_elem? env x ≡ some t → leb (besides + n + size t) most_live ≡ false → chained x apps n l ≡ stop 44 l
        over t apps e q = variable_there_lem env x l _ t e ∙ live_over (besides + n + size t) l _ (leb-false (besides + n + size t) most_live q)

        stuck_there : (t : Words) → chain_of (drop from ws) ≡ unreadable → get_elem? env x ≡ some t → leb (besides + n + size t) most_live ≡ true → chained x (chain_of (drop from ws)) n l ≡ stuck
        stuck_there t r e q =
            variable_there_lem env x l _ t e ∙ live_fits (besides + n + size t) l _ (leb-true (besides + n + size t) most_live q) ∙ then_stuck _ _ (ap (λ a. apply_chain true g rules (calls true g rules deep) a env t (besides + n) n l) r ∙ never_applied t (besides + n) n l)

        live : (t : Words) → get_elem? env x ≡ some t → chain_of (drop from ws) ≡ unreadable → (b : Bool) → leb (besides + n + size t) most_live ≡ b
            → (chained x (chain_at ws from) n l ≡ chained x (chain_of (drop from ws)) n l) × ((u : Words) (now : State) → chained x (chain_at ws from) n l ≡ ok u now → chain_of (drop from ws) ≡ chain_at ws from)
        live t e r true q = absurd (sure (stuck_there t r e q))
        live t e r false q =
            let o = over t (chain_at ws from) e q in
            (o ∙ sym (over t (chain_of (drop from ws)) e q), λ u now f. let z : ◌≡◌ {A = ℕ} 0 1 = cc in absurd (omega arith))

        go : (b : Bool) → chain_written (drop from ws) ≡ b
            → (chained x (chain_at ws from) n l ≡ chained x (chain_of (drop from ws)) n l) × ((u : Words) (now : State) → chained x (chain_at ws from) n l ≡ ok u now → chain_of (drop from ws) ≡ chain_at ws from)
        go true w = let e = chain_written_lem ws from w in (ap (λ a. chained x a n l) (sym e), λ u now f. e)
        go false w = let v = variable_sure env x l _ sure in live v.0 v.1 (chain_unwritten (drop from ws) w) (leb (besides + n + size v.0) most_live) refl

  -- the chain at i
  module _ (ws : Words) (i n : ℕ) (l : State) (h : i + 2 ≤ length ws) (c : get_or ws i 0 ≡ mark_chain) (sure : Sure (filled (pieces (drop i ws)) n l)) where
    here : filled (pieces (drop i ws)) n l ≡ then_of (chained (get_or ws (i + 1) 0) (chain_of (drop (i + 2) ws)) n l) (λ u. onward u (pieces (drop (i + 4 + 2 * pairs_in (chain_of (drop (i + 2) ws))) ws)) (n + size u))
    here = ap (λ ps. filled ps n l) (pieces_chain ws i h c) ∙ sym (fill_chain (get_or ws (i + 1) 0) (chain_of (drop (i + 2) ws)) (pieces (drop (i + 4 + 2 * pairs_in (chain_of (drop (i + 2) ws))) ws)) n l)

    first_sure : Sure (chained (get_or ws (i + 1) 0) (chain_of (drop (i + 2) ws)) n l)
    first_sure = sure_first (chained (get_or ws (i + 1) 0) (chain_of (drop (i + 2) ws)) n l) _ (sure_as here sure)

    read : (chained (get_or ws (i + 1) 0) (chain_at ws (i + 2)) n l ≡ chained (get_or ws (i + 1) 0) (chain_of (drop (i + 2) ws)) n l)
        × ((u : Words) (now : State) → chained (get_or ws (i + 1) 0) (chain_at ws (i + 2)) n l ≡ ok u now → chain_of (drop (i + 2) ws) ≡ chain_at ws (i + 2))
    read = chain_read (get_or ws (i + 1) 0) (i + 2) n l ws first_sure

    pub chain_sure : Sure (chain_piece deep (get_or ws (i + 1) 0) (chain_at ws (i + 2)) g rules env besides n l)
    chain_sure = sure_as (sym read.0) first_sure

    pub chain_stops : (s : ℕ) (now : State) → chain_piece deep (get_or ws (i + 1) 0) (chain_at ws (i + 2)) g rules env besides n l ≡ stop s now → filled (pieces (drop i ws)) n l ≡ stop s now
    chain_stops s now e = here ∙ then_stop (chained (get_or ws (i + 1) 0) (chain_of (drop (i + 2) ws)) n l) _ s now (sym read.0 ∙ e)

    pub chain_gives : (u : Words) (now : State) → chain_piece deep (get_or ws (i + 1) 0) (chain_at ws (i + 2)) g rules env besides n l ≡ ok u now
        → filled (pieces (drop i ws)) n l ≡ onward u (pieces (drop (i + 4 + 2 * pairs_in (chain_at ws (i + 2))) ws)) (n + size u) now
    chain_gives u now e =
        here ∙ then_ok (chained (get_or ws (i + 1) 0) (chain_of (drop (i + 2) ws)) n l) _ u now (sym read.0 ∙ e)
        ∙ ap (λ a. onward u (pieces (drop (i + 4 + 2 * pairs_in a) ws)) (n + size u) now) (read.1 u now e)

-- A CHAIN IN A REPLACEMENT

-- after its variable is copied
abbrev chain_on : ℕ → List Application → Grammar → Rules.Rules → Env → ℕ → ℕ → Words → Comp Words
chain_on deep apps g rules env besides n t = do
  u ← apply_chain true g rules (calls true g rules deep) apps env t (besides + n) n
  nodes_within (n + size u)
  return u

module _ (given : Given) (w pairs : Words) (i n : ℕ) (frame : Open) (deep : ℕ) (left : State) (room : Room w frame) (few : frame.live + n ≤ most_live)
    (start m : ℕ) (at : start ≡ start_at frame.vars (get_or pairs (i + 1) 0)) (nodes : NodesAt w start frame.top m) where
  abbrev x : ℕ
  x = get_or pairs (i + 1) 0

  abbrev apps : List Application
  apps = chain_at pairs (i + 2)

  abbrev base : ℕ
  base = frame.top + 2 * n

  abbrev piece : Grammar → Rules.Rules → Env → Computation.Result Words
  piece g rules env = chain_piece deep x apps g rules env frame.live n left

  -- what the definition makes of the variable
  record Copied (g : Grammar) (rules : Rules.Rules) (env : Env) : Type 0 where
    t : Words
    stands : Stands g (take frame.top w) start t
    counted : m ≡ size t
    same_run : piece g rules env ≡ then_of (live_within (frame.live + n + size t) left) (λ z. chain_on deep apps g rules env frame.live n t)

  copied : (g : Grammar) (rules : Rules.Rules) (b : Bindings) → Setting given g rules → Held g w frame b → Sure (piece g rules b.env) → Copied g rules b.env
  copied g rules b st h sure =
      let v = variable_sure b.env x left _ sure in
      let s = rw (← at) at (variable_stands g (take frame.top w) frame.vars b.env x v.0 room.sound h.stands v.1) in
      record { t = v.0; stands = s; counted = nodes.stands g v.0 st.types_of.heads_of.types s; same_run = v.2 }

  -- by the count of what is live
  by_live : (P : Computation.Result Words → Type 0) (g : Grammar) (rules : Rules.Rules) (b : Bindings) → Held g w frame b → (Sure (piece g rules b.env) → P (piece g rules b.env))
      → Sure (chain_piece deep x apps g rules b.env (live b) n left) → P (chain_piece deep x apps g rules b.env (live b) n left)
  by_live P g rules b h f = subst (λ k. Sure (chain_piece deep x apps g rules b.env k n left) → P (chain_piece deep x apps g rules b.env k n left)) h.counted f

  -- too many nodes would be live
  pub fills_over : most_live < frame.live + n + m → i ≤ 256 → {number : ℕ} → number ≡ 44 → FillsChain given w w pairs i n frame deep left (record { built = record { nodes = Err number; left = left }; next = i })
  fills_over h k {number} en = record {
    few = λ z. absurd (err_ok z);
    fits = λ z. absurd (err_ok z);
    less = omega arith;
    long = refl;
    near = omega arith;
    next_is = λ z. absurd (err_ok z);
    meant = λ g rules b st hd sure. (refl, by_live (λ p. p ≡ stop number left) g rules b hd (stops g rules b st hd) sure);
  }
    where
      stops : (g : Grammar) (rules : Rules.Rules) (b : Bindings) → Setting given g rules → Held g w frame b → Sure (piece g rules b.env) → piece g rules b.env ≡ stop number left
      stops g rules b st hd sure = let c = copied g rules b st hd sure in c.same_run ∙ live_over (frame.live + n + size c.t) left _ (omega (arith, c.counted)) ∙ ap (λ j. stop j left) (sym en)

  -- the copy stands on top
  module _ (fits : frame.live + n + m ≤ most_live) (w₁ w' : Words) (same : length w₁ ≡ length w) (pushed : w₁ ≡ take base w ++ (take (2 * m) (drop start w) ++ drop (base + 2 * m) w)) (c : Chained)
      (chains : Chains given w₁ w' pairs (i + 2) base m frame.vars (frame.live + n) n deep left c) where
    record Applied (g : Grammar) (rules : Rules.Rules) (env : Env) : Type 0 where
      t : Words
      same_run : piece g rules env ≡ chain_on deep apps g rules env frame.live n t left
      kept : take base w' ≡ take base w
      says : Says (Tree g w' base) c.built.nodes c.built.left (apply_chain true g rules (calls true g rules deep) apps env t (frame.live + n) n left)

    room_there : base + 2 * m ≤ length w
    room_there = omega (arith, room.low, room.few, room.long)

    applied : (g : Grammar) (rules : Rules.Rules) (b : Bindings) → Setting given g rules → Held g w frame b → Sure (piece g rules b.env) → Applied g rules b.env
    applied g rules b st hd sure =
        let o = copied g rules b st hd sure in
        let run = o.same_run ∙ live_fits (frame.live + n + size o.t) left (λ z. chain_on deep apps g rules b.env frame.live n o.t) (omega (arith, o.counted)) in
        let kept = tree_kept w w₁ frame.top start m base o.stands o.counted room_there pushed in
        let up = env_up g w frame.top base (omega arith) (starts_of frame.vars) b.env hd.stands in
        let q = chains.builds.meant g rules b.env o.t st (env_kept g w w₁ base kept (starts_of frame.vars) b.env up)
        (o.stands.type, tree_pushed w w₁ frame.top start m base o.stands o.counted room_there pushed) (sure_first _ _ (sure_as run sure)) in
        record { t = o.t; same_run = run; kept = q.0 ∙ kept; says = q.1 }

    -- what is said of the tree that the chain leaves
    abbrev Adds : Grammar → ℕ → Words → Type 0
    Adds g nodes u = (nodes ≡ n + size u) × Tree g w' base (size u) u

    pub fills_stopped : {number : ℕ} → c.built.nodes ≡ Err number → FillsChain given w w' pairs i n frame deep left c
    fills_stopped h = record {
      few = λ z. absurd (err_ok (sym h ∙ z));
      fits = λ z. absurd (err_ok (sym h ∙ z));
      less = chains.builds.less;
      long = chains.builds.long ∙ same;
      near = chains.near;
      next_is = λ z. absurd (err_ok (sym h ∙ z));
      meant = λ g rules b st hd sure. by_live (λ p. (take base w' ≡ take base w) × Says (Adds g) c.built.nodes c.built.left p) g rules b hd (stops g rules b st hd) sure;
    }
      where
        stops : (g : Grammar) (rules : Rules.Rules) (b : Bindings) → Setting given g rules → Held g w frame b → Sure (piece g rules b.env)
            → (take base w' ≡ take base w) × Says (Adds g) c.built.nodes c.built.left (piece g rules b.env)
        stops g rules b st hd sure =
            let a = applied g rules b st hd sure in
            (a.kept, stop_says _ _ c.built.left h (a.same_run ∙ then_stop _ _ _ c.built.left (says_stop _ _ c.built.left h a.says)))

    added_few : (s : Result (Unit {0}) ℕ) (k : ℕ) {m : ℕ} → Within most_nodes 42 k s → and_nodes s k ≡ Ok m → (m ≡ k) × (m ≤ most_nodes)
    added_few (Ok u) k h e = let z = and_is (Ok u) k e in (z, omega (arith, z))
    added_few (Err j) k h e = absurd (err_ok e)

    pub fills_added : {more : ℕ} → c.built.nodes ≡ Ok more → (s : Result (Unit {0}) ℕ) → Within most_nodes 42 (n + more) s → (r : Result ℕ ℕ) → r ≡ and_nodes s (n + more)
        → FillsChain given w w' pairs i n frame deep left (record { built = record { nodes = r; left = c.built.left }; next = c.next })
    fills_added {more} h s e r er = rw er (record {
      few = λ z. (added_few s (n + more) e z).1;
      fits = λ z. omega (arith, (added_few s (n + more) e z).0, chains.builds.fits h);
      less = chains.builds.less;
      long = chains.builds.long ∙ same;
      near = chains.near;
      next_is = λ z. let q = chains.next_is h in omega arith;
      meant = λ g rules b st hd sure. by_live (λ p. (take base w' ≡ take base w) × Says (Adds g) (and_nodes s (n + more)) c.built.left p) g rules b hd (gives g rules b st hd) sure;
    })
      where
        limit : (g : Grammar) (u : Words) → size u ≡ more → Tree g w' base (size u) u → (p : Computation.Result Words) → p ≡ then_of (nodes_within (n + size u) c.built.left) (λ z. return u)
            → (s : Result (Unit {0}) ℕ) → Within most_nodes 42 (n + more) s → Says (Adds g) (and_nodes s (n + more)) c.built.left p
        limit g u k t p run (Ok v) e = (u, (omega arith, t), run ∙ nodes_fit (n + size u) c.built.left (λ z. return u) (omega (arith, k)))
        limit g u k t p run (Err j) e = run ∙ nodes_over (n + size u) c.built.left (λ z. return u) (omega (arith, k, e.0)) ∙ ap (λ x. stop x c.built.left) (sym e.1)

        gives : (g : Grammar) (rules : Rules.Rules) (b : Bindings) → Setting given g rules → Held g w frame b → Sure (piece g rules b.env)
            → (take base w' ≡ take base w) × Says (Adds g) (and_nodes s (n + more)) c.built.left (piece g rules b.env)
        gives g rules b st hd sure =
            let a = applied g rules b st hd sure in
            let q = says_ok _ _ c.built.left h a.says in
            let k : size q.0 ≡ more = q.1.1.nodes in
            let run : piece g rules b.env ≡ then_of (nodes_within (n + size q.0) c.built.left) (λ z. return q.0) = a.same_run ∙ then_ok _ _ q.0 c.built.left q.2 in
            (a.kept, limit g q.0 k (subst (λ j. Tree g w' base j q.0) (sym k) q.1) (piece g rules b.env) run s e)

-- THE LOOP

-- words added to those that were filled
filled_more : {g : Grammar} (w w' done add : Words) (top n k : ℕ) → top + 2 * n ≤ length w → take (top + 2 * n) w' ≡ take (top + 2 * n) w
    → UnderWay g (take (2 * n) (drop top w)) done → UnderWay g (take (2 * k) (drop (top + 2 * n) w')) add → UnderWay g (take (2 * (n + k)) (drop top w')) (done ++ add)
filled_more {g} w w' done add top n k fits kept before there =
    let z : 2 * (n + k) ≡ 2 * n + 2 * k = omega arith in
    let part : take (2 * (n + k)) (drop top w') ≡ take (2 * n) (drop top w) ++ take (2 * k) (drop (top + 2 * n) w') =
    ap (λ j. take j (drop top w')) z ∙ take-add (2 * n) (2 * k) (drop top w') ∙ ap₂ (λ a b. a ++ b) (stretch_kept w w' (top + 2 * n) top (2 * n) (omega arith) kept) (ap (take (2 * k)) (drop-drop (2 * n) top w')) in
    subst (λ l. UnderWay g l (done ++ add)) (sym part) (under_append before there)

-- what was filled, and what is left, as the definition sees it
record SoFar (g : Grammar) (rules : Rules.Rules) (deep : ℕ) (env : Env) (besides : ℕ) (left : State) (w₀ pairs w : Words) (top : ℕ) (fuel : State) (n i : ℕ) : Type 0 where
  done : Words
  long : length done ≡ 2 * n
  there : UnderWay g (take (2 * n) (drop top w)) done
  kept : take top w ≡ take top w₀
  same_run : filled g rules deep env besides (pieces pairs) 0 left ≡ onward g rules deep env besides done (pieces (drop i pairs)) n fuel

pub record Filling (given : Given) (w₀ pairs : Words) (frame : Open) (deep : ℕ) (left : State) (w : Words) (fuel : State) (n i : ℕ) : Type 0 where
  pub few : n ≤ most_nodes
  pub fits : frame.live + n ≤ most_live
  pub less : fuel.attempts ≤ left.attempts
  pub long : length w ≡ length w₀
  pub near : i < 2 ^ 40
  run : (g : Grammar) (rules : Rules.Rules) (b : Bindings) → Setting given g rules → Held g w₀ frame b → Sure (filled g rules deep b.env (live b) (pieces pairs) 0 left)
      → SoFar g rules deep b.env (live b) left w₀ pairs w frame.top fuel n i

pub filling_start : (given : Given) (w pairs : Words) (frame : Open) (deep : ℕ) (left : State) → frame.live ≤ most_live → Filling given w pairs frame deep left w left 0 0
filling_start given w pairs frame deep left h = record {
  few = omega arith;
  fits = omega arith;
  less = omega arith;
  long = refl;
  near = omega arith;
  run = λ g rules b st hd sure. record { done = []; long = refl; there = nothing; kept = refl; same_run = sym (then_all (filled g rules deep b.env (live b) (pieces pairs) 0 left)) };
}

module _ (given : Given) (w₀ pairs : Words) (frame : Open) (deep : ℕ) (left : State) (room : Room w₀ frame) (w : Words) (fuel : State) (n i : ℕ)
    (inv : Filling given w₀ pairs frame deep left w fuel n i) where
  abbrev rest : Grammar → Rules.Rules → Bindings → Computation.Result Words
  rest g rules b = filled g rules deep b.env (live b) (pieces (drop i pairs)) n fuel

  -- one piece more
  record Added (g : Grammar) (rules : Rules.Rules) (b : Bindings) (w' : Words) (now : State) (m j : ℕ) : Type 0 where
    add : Words
    k : ℕ
    count : m ≡ n + k
    long : length add ≡ 2 * k
    kept : take (frame.top + 2 * n) w' ≡ take (frame.top + 2 * n) w
    there : UnderWay g (take (2 * k) (drop (frame.top + 2 * n) w')) add
    step : rest g rules b ≡ onward g rules deep b.env (live b) add (pieces (drop j pairs)) m now

  top_inside : frame.top + 2 * n ≤ length w
  top_inside = omega (arith, room.low, room.few, room.long, inv.few, inv.long)

  grows : (w' : Words) (now : State) (m j : ℕ) → m ≤ most_nodes → frame.live + m ≤ most_live → now.attempts ≤ fuel.attempts → length w' ≡ length w → j < 2 ^ 40
      → ((g : Grammar) (rules : Rules.Rules) (b : Bindings) → Setting given g rules → Held g w frame b → Sure (rest g rules b) → Added g rules b w' now m j)
      → Filling given w₀ pairs frame deep left w' now m j
  grows w' now m j few fits less long near f = record {
    few = few;
    fits = fits;
    less = omega (arith, inv.less);
    long = long ∙ inv.long;
    near = near;
    run = λ g rules b st hd sure.
        let o = inv.run g rules b st hd sure in
        let a = f g rules b st (held_kept o.kept hd) (sure_first (rest g rules b) _ (sure_as o.same_run sure)) in
        record {
          done = o.done ++ a.add;
          long = omega (arith, length-append o.done a.add, o.long, a.long, a.count);
          there = subst (λ j. UnderWay g (take (2 * j) (drop frame.top w')) (o.done ++ a.add)) (sym a.count) (filled_more w w' o.done a.add frame.top n a.k top_inside a.kept o.there a.there);
          kept = take_less frame.top (frame.top + 2 * n) w w' (omega arith) a.kept ∙ o.kept;
          same_run = o.same_run ∙ ap (λ x. then_of x (λ us. return (o.done ++ us))) a.step ∙ then_before (filled g rules deep b.env (live b) (pieces (drop j pairs)) m now) o.done a.add;
        };
  }

  -- what is said of the words that were filled
  abbrev Filled : Words → Grammar → ℕ → Words → Type 0
  Filled w' g nodes ws = (length ws ≡ 2 * nodes) × UnderWay g (take (2 * nodes) (drop frame.top w')) ws

  -- .. or a stop
  ends : (at : ℕ) → pairs ≡ pairs_at given.book at → (w' : Words) (r : Built) {k : ℕ} → r.nodes ≡ Err k → r.left.attempts ≤ fuel.attempts → length w' ≡ length w
      → ((g : Grammar) (rules : Rules.Rules) (b : Bindings) → Setting given g rules → Held g w frame b → Sure (rest g rules b) → (take frame.top w' ≡ take frame.top w) × (rest g rules b ≡ stop k r.left))
      → Fills given w₀ w' at frame deep left r
  ends at ep w' r {k} h less long f = record {
    few = λ z. absurd (err_ok (sym h ∙ z));
    fits = λ z. absurd (err_ok (sym h ∙ z));
    less = omega (arith, inv.less);
    long = long ∙ inv.long;
    meant = λ g rules b st hd. subst (λ ps. Sure (filled g rules deep b.env (live b) (pieces ps) 0 left) → (take frame.top w' ≡ take frame.top w₀)
        × Says (Filled w' g) r.nodes r.left (filled g rules deep b.env (live b) (pieces ps) 0 left)) ep (λ sure.
        let o = inv.run g rules b st hd sure in
        let a = f g rules b st (held_kept o.kept hd) (sure_first (rest g rules b) _ (sure_as o.same_run sure)) in
        (a.0 ∙ o.kept, stop_says _ _ r.left h (o.same_run ∙ then_stop (rest g rules b) _ k r.left a.1)));
  }

  -- the end
  pub filling_end : (at : ℕ) → pairs ≡ pairs_at given.book at → length pairs < i + 2 → Fills given w₀ w at frame deep left (record { nodes = Ok n; left = fuel })
  filling_end at ep h = record {
    few = λ z. omega (arith, ok_is z, inv.few);
    fits = λ z. omega (arith, ok_is z, inv.fits);
    less = inv.less;
    long = inv.long;
    meant = λ g rules b st hd. subst (λ ps. Sure (filled g rules deep b.env (live b) (pieces ps) 0 left) → (take frame.top w ≡ take frame.top w₀)
        × Says (Filled w g) (Ok n) fuel (filled g rules deep b.env (live b) (pieces ps) 0 left)) ep (λ sure.
        let o = inv.run g rules b st hd sure in
        let last : rest g rules b ≡ ok [] fuel = ap (λ ps. filled g rules deep b.env (live b) ps n fuel) (pieces_end_lem pairs i h) ∙ fill_end g rules deep b.env (live b) n fuel in
        (o.kept, (o.done, (o.long, o.there), o.same_run ∙ then_ok (rest g rules b) _ [] fuel last ∙ ap (λ ws. ok ws fuel) (append-nil o.done))));
  }

  module _ (h : i + 2 ≤ length pairs) (small : length pairs ≤ 256) where
    abbrev t : ℕ
    t = get_or pairs i 0

    abbrev v : ℕ
    v = get_or pairs (i + 1) 0

    -- a written node
    module _ (no_chain : t ≡ mark_chain → ⊥) (no_variable : t ≡ mark_variable → ⊥) (s : Result (Unit {0}) ℕ) (es : s ≡ within_limits (n + 1) (frame.live + n + 1)) where
      writes : (g : Grammar) (rules : Rules.Rules) (b : Bindings) → rest g rules b ≡ filled g rules deep b.env (live b) (write t v ∷ pieces (drop (i + 2) pairs)) n fuel
      writes g rules b = ap (λ ps. filled g rules deep b.env (live b) ps n fuel) (pieces_write pairs i h no_chain no_variable)

      limit : {g : Grammar} {b : Bindings} → Held g w frame b → s ≡ within_limits (n + 1) (live b + n + 1)
      limit hd = es ∙ ap (λ k. within_limits (n + 1) (k + n + 1)) hd.counted

      pub filling_write_stops : {k : ℕ} → s ≡ Err k → (at : ℕ) → pairs ≡ pairs_at given.book at → Fills given w₀ w at frame deep left (record { nodes = Err k; left = fuel })
      filling_write_stops {k} z at ep = ends at ep w (record { nodes = Err k; left = fuel }) refl (omega arith) refl
          (λ g rules b st hd sure. (refl, writes g rules b ∙ write_stops g rules deep b.env (live b) (pieces (drop (i + 2) pairs)) n fuel t v s (limit hd) z))

      pub filling_write : {u : Unit {0}} → s ≡ Ok u → (w' : Words) → length w' ≡ length w → w' ≡ take (frame.top + 2 * n) w ++ (t ∷ v ∷ drop (frame.top + 2 * n + 2) w)
          → Filling given w₀ pairs frame deep left w' fuel (n + 1) (i + 2)
      filling_write z w' long e =
          let f = limits_told (n + 1) (frame.live + n + 1) (sym es ∙ z) in
          let fits : frame.top + 2 * n + 2 ≤ length w = omega (arith, room.low, room.few, room.long, f.0, inv.long) in
          grows w' fuel (n + 1) (i + 2) f.0 (omega (arith, f.1)) (omega arith) long (omega (arith, inv.near)) (λ g rules b st hd sure. record {
            add = t ∷ v ∷ [];
            k = 1;
            count = refl;
            long = refl;
            kept = pushed_kept w w' (t ∷ v ∷ []) (frame.top + 2 * n) 2 refl fits e;
            there = subst (λ l. UnderWay g l (t ∷ v ∷ [])) (sym (pushed_there w w' (t ∷ v ∷ []) (frame.top + 2 * n) 2 refl fits e)) (written t v nothing);
            step = writes g rules b ∙ write_fits g rules deep b.env (live b) (pieces (drop (i + 2) pairs)) n fuel t v s (limit hd) z;
          })

    -- a copy
    module _ (no_chain : t ≡ mark_chain → ⊥) (is_variable : t ≡ mark_variable) (start m : ℕ) (es : start ≡ start_at frame.vars v) (nodes : NodesAt w start frame.top m)
        (s : Result (Unit {0}) ℕ) (eo : s ≡ within_limits (n + m) (frame.live + n + m)) where
      record Taken (g : Grammar) (rules : Rules.Rules) (b : Bindings) : Type 0 where
        u : Words
        found : get_elem? b.env v ≡ some u
        stands : Stands g (take frame.top w) start u
        counted : m ≡ size u
        limit : s ≡ within_limits (n + size u) (live b + n + size u)
        step : rest g rules b ≡ filled g rules deep b.env (live b) (copy v ∷ pieces (drop (i + 2) pairs)) n fuel

      taken : (g : Grammar) (rules : Rules.Rules) (b : Bindings) → Setting given g rules → Held g w frame b → Sure (rest g rules b) → Taken g rules b
      taken g rules b st hd sure =
          let e = ap (λ ps. filled g rules deep b.env (live b) ps n fuel) (pieces_copy pairs i h no_chain is_variable) in
          let q = copy_there g rules deep b.env (live b) (pieces (drop (i + 2) pairs)) n fuel v (sure_as e sure) in
          let x = rw (← es) at (variable_stands g (take frame.top w) frame.vars b.env v q.0 room.sound hd.stands q.1) in
          let k = nodes.stands g q.0 st.types_of.heads_of.types x in
          record { u = q.0; found = q.1; stands = x; counted = k; limit = eo ∙ ap₂ (λ j l. within_limits (n + j) (l + n + j)) k hd.counted; step = e }

      pub filling_copy_stops : {k : ℕ} → s ≡ Err k → (at : ℕ) → pairs ≡ pairs_at given.book at → Fills given w₀ w at frame deep left (record { nodes = Err k; left = fuel })
      filling_copy_stops {k} z at ep = ends at ep w (record { nodes = Err k; left = fuel }) refl (omega arith) refl
          (λ g rules b st hd sure. let o = taken g rules b st hd sure in (refl, o.step ∙ copy_stops g rules deep b.env (live b) (pieces (drop (i + 2) pairs)) n fuel v o.u o.found s o.limit z))

      pub filling_copy : {u : Unit {0}} → s ≡ Ok u → (w' : Words) → length w' ≡ length w → w' ≡ take (frame.top + 2 * n) w ++ (take (2 * m) (drop start w) ++ drop (frame.top + 2 * n + 2 * m) w)
          → Filling given w₀ pairs frame deep left w' fuel (n + m) (i + 2)
      filling_copy z w' long e =
          let f = limits_told (n + m) (frame.live + n + m) (sym eo ∙ z) in
          let fits : frame.top + 2 * n + 2 * m ≤ length w = omega (arith, room.low, room.few, room.long, f.0, inv.long) in
          grows w' fuel (n + m) (i + 2) f.0 (omega (arith, f.1)) (omega arith) long (omega (arith, inv.near)) (λ g rules b st hd sure.
          let o = taken g rules b st hd sure in
          let y = tree_pushed w w' frame.top start m (frame.top + 2 * n) o.stands o.counted fits e in
          record {
            add = o.u;
            k = m;
            count = refl;
            long = omega (arith, tree_length o.stands.tree, o.counted);
            kept = tree_kept w w' frame.top start m (frame.top + 2 * n) o.stands o.counted fits e;
            there = under_tree o.stands.tree.typed y.words;
            step = o.step ∙ copy_fits g rules deep b.env (live b) (pieces (drop (i + 2) pairs)) n fuel v o.u o.found s o.limit z
                ∙ ap (λ j. onward g rules deep b.env (live b) o.u (pieces (drop (i + 2) pairs)) (n + j) fuel) (sym o.counted);
          })

    -- a chain
    module _ (is_chain : t ≡ mark_chain) (w' : Words) (c : Chained) (chains : FillsChain given w w' pairs i n frame deep fuel c) where
      pub filling_chain_stops : {k : ℕ} → c.built.nodes ≡ Err k → (at : ℕ) → pairs ≡ pairs_at given.book at → Fills given w₀ w' at frame deep left c.built
      filling_chain_stops z at ep = ends at ep w' c.built z chains.less chains.long (λ g rules b st hd sure.
          let q = chains.meant g rules b st hd (chain_sure g rules deep b.env (live b) pairs i n fuel h is_chain sure) in
          (take_less frame.top (frame.top + 2 * n) w w' (omega arith) q.0, chain_stops g rules deep b.env (live b) pairs i n fuel h is_chain sure _ c.built.left (says_stop _ _ c.built.left z q.1)))

      pub filling_chain : {now : ℕ} → c.built.nodes ≡ Ok now → Filling given w₀ pairs frame deep left w' c.built.left now c.next
      filling_chain {now} z = grows w' c.built.left now c.next (chains.few z) (chains.fits z) chains.less chains.long chains.near (λ g rules b st hd sure.
          let q = chains.meant g rules b st hd (chain_sure g rules deep b.env (live b) pairs i n fuel h is_chain sure) in
          let o = says_ok _ _ c.built.left z q.1 in
          let x = o.1.1.1 in
          record {
            add = o.0;
            k = size o.0;
            count = o.1.0;
            long = tree_length x.tree;
            kept = q.0;
            there = under_tree x.tree.typed x.words;
            step = chain_gives g rules deep b.env (live b) pairs i n fuel h is_chain sure o.0 c.built.left o.2
                ∙ ap₂ (λ j k. onward g rules deep b.env (live b) o.0 (pieces (drop j pairs)) k c.built.left) (sym (chains.next_is z)) (sym o.1.0);
          })
