-- From words: what nothing refuses runs soundly, and what it leaves passes the slip's check again. Assumes nothing.
use Prim.Native.Nat.{ℕ, ◌-◌, ◌≤◌}
use mathlib.Core.Path.{◌≡◌, refl, sym, ◌∙◌}
use mathlib.Core.Bool.{true, false}
use native.Mathlib.Omega.{arith}
use lib.Dec.{leb}
use borrow.Author.Tests.{leb-true}
use Rattle.words.specs.Reader as R
use Rattle.words.specs.Reader.{Read, value}
use Rattle.words.proofs.Laws.{then_value, require_value}
use Rattle.grammar.specs.Grammar.{read_grammar}
use Rattle.tree.specs.Tree.{Tree}
use Rattle.tree.specs.Slip.{counted, read_slip}
use Rattle.tree.proofs.Slip.{counted_length, slip_sound, slip_accepted}
use Rattle.judgement.specs.Typing.{read_rules}
use Rattle.judgement.specs.WellTyped.{WellTyped}
use Rattle.judgement.proofs.Exactly.{passes_exactly}
use Rattle.meaning.specs.Limits.{least_result, least_work}
use Rattle.meaning.specs.Meaning.{Called, run}
use Rattle.meaning.specs.Outcome.{Inputs, Decoded, call_fits, decode, ended_as, outcome_of, outcome}
use Rattle.meaning.specs.Runs.{Went, Sure}
use Rattle.meaning.specs.Sound.{Sound}
use Rattle.meaning.proofs.Sound.{soundness}

-- what the checks went through
pub record ReadAll (result work : ℕ) (x : Inputs) (d : Decoded) : Type 0 where
  pub room : least_result ≤ result
  pub space : least_work ≤ work
  pub m : ℕ
  pub n : ℕ
  pub grammar : read_grammar x.grammar ≡ value d.grammar m
  pub rules : read_rules d.grammar x.rules ≡ value d.rules n
  pub k : ℕ
  pub slip : read_slip d.grammar x.slip ≡ value d.tree k

pub read_all : (result work : ℕ) (x : Inputs) (d : Decoded) (next : ℕ) → decode result work x ≡ value d next → ReadAll result work x d
unfolding decode call_fits
read_all result work x d next e =
    let c = then_value (call_fits result work x 0) _ e in
    let room = require_value (leb least_result result) 1 0 0 _ c.2 in
    let space = require_value (leb least_work work) 2 0 0 _ room.1 in
    let a = then_value (read_grammar x.grammar) _ c.3 in
    let r = then_value (read_rules a.0 x.rules) _ a.3 in
    let t = then_value (read_slip a.0 x.slip) _ r.3 in
    let same : ◌≡◌ {A = Decoded} (record { grammar = a.0; rules = r.0; tree = t.0 }) d = cc t.3 in
    rw (← same) (record { room = leb-true least_result result room.0; space = leb-true least_work work space.0; m = a.1; n = r.1; grammar = a.2; rules = r.2; k = t.1; slip = t.2 })

module _ (result work : ℕ) (x : Inputs) (d : Decoded) (q : ReadAll result work x d) where
  pub read_tree_lem : Tree d.grammar 0 d.tree
  read_tree_lem = (slip_sound d.grammar x.slip d.tree q.k q.slip).0

  pub read_typed : WellTyped d.grammar d.rules
  read_typed = ((passes_exactly x.grammar x.rules d.grammar q.m q.grammar d.rules).sound (q.n, q.rules)).1

  pub read_sound : Sound d.grammar 0 x.budget (run true d.grammar d.rules d.tree x.budget) (run false d.grammar d.rules d.tree x.budget)
  read_sound = soundness d.grammar d.rules read_typed d.tree read_tree_lem x.budget

went : (result work : ℕ) (x : Inputs) (d : Decoded) (next : ℕ) → decode result work x ≡ value d next → (c : Called) → c ≡ run false d.grammar d.rules d.tree x.budget
    → Went result work x c.ending (x.budget - c.left.attempts) c.replacements (counted d.grammar c.scope)
unfolding ended_as
went result work x d next e c is =
    let q = read_all result work x d next e in
    let s = read_sound result work x d q in
    let same : run true d.grammar d.rules d.tree x.budget ≡ c = s.agree ∙ sym is in
    let tree : Tree d.grammar 0 c.scope = rw same at s.scope in
    record {
      with = d;
      next = next;
      read = e;
      sound = s;
      same = rw same;
      ends = rw same at s.ends;
      few = omega arith;
      one = (slip_accepted d.grammar (counted d.grammar c.scope)).1 c.scope tree refl;
      fits = omega (arith, q.room, counted_length d.grammar c.scope, tree.nodes);
    }

-- EVERY OUTCOME is a refusal that the checks give, or a run that went soundly
pub outcome_sure : (result work : ℕ) (x : Inputs) → Sure result work x (outcome result work x)
unfolding outcome outcome_of ended_as
outcome_sure result work x = go (decode result work x) refl
  where
    go : (q : Read Decoded) → decode result work x ≡ q → Sure result work x (outcome_of x q)
    go (R.refused n p) e = e
    go (value d next) e = went result work x d next e (run false d.grammar d.rules d.tree x.budget) refl
