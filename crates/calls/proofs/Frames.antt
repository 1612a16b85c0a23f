-- The trees of variables, and frames that grow: what stays when more stands above. Assumes nothing.
use Prim.Native.Nat.{ℕ, zero, suc, ◌<◌, ◌≤◌}
use mathlib.Core.Path.{◌≡◌}
use mathlib.Core.List.{List, [], ◌∷◌}
use native.Mathlib.Omega.{arith}
use mathlib.Core.Option.{some}
use lib.ListN.{length, take, get_elem?}
use Rattle.words.specs.Reader.{Words}
use Rattle.grammar.specs.Grammar.{Grammar}
use Rattle.meaning.specs.Limits.{most_live}
use Rattle.meaning.specs.Meaning.{Env, Bindings}
use Rattle.marks.specs.Marked.{Stands}
use Rattle.rewrite.specs.Vars.{Vars, vars_of, EnvAt, Sound, Kept}
use Rattle.rewrite.proofs.Standing.{stands_up}
use Rattle.rewrite.proofs.Matcher.{kept_same, kept_more, kept_back, sound_back, starts_kept}
use Rattle.calls.specs.Engine.{Open, Room, Grown, Held}

-- THE TREES OF VARIABLES

pub env_map : (g : Grammar) (w w' : Words) → ((s : ℕ) (ws : Words) → Stands g w s ws → Stands g w' s ws) → (ss : List ℕ) (env : Env) → EnvAt g w ss env → EnvAt g w' ss env
env_map g w w' f [] [] e = tt
env_map g w w' f [] (x ∷ env) e = absurd e
env_map g w w' f (s ∷ ss) [] e = absurd e
env_map g w w' f (s ∷ ss) (x ∷ env) e = (f s x e.0, env_map g w w' f ss env e.1)

pub env_up : (g : Grammar) (w : Words) (a b : ℕ) → a ≤ b → (ss : List ℕ) (env : Env) → EnvAt g (take a w) ss env → EnvAt g (take b w) ss env
env_up g w a b h = env_map g (take a w) (take b w) (λ s ws. stands_up w a b h)

pub env_kept : (g : Grammar) (w w' : Words) (a : ℕ) → take a w' ≡ take a w → (ss : List ℕ) (env : Env) → EnvAt g (take a w) ss env → EnvAt g (take a w') ss env
env_kept g w w' a e ss env x = rw e x

-- VARIABLES

get_bound : (env : Env) (x : ℕ) (t : Words) → get_elem? env x ≡ some t → x < length env
get_bound [] x t e = let z : ◌≡◌ {A = ℕ} 0 1 = cc in absurd (omega arith)
get_bound (w ∷ env) zero t e = omega arith
get_bound (w ∷ env) (suc x) t e = let i = get_bound env x t e in omega arith

-- FRAMES

pub grown_same : {w : Words} {frame : Open} → Room w frame → Grown frame frame
grown_same {frame = frame} r = record { sound = r.sound; kept = kept_same frame.vars; few = r.few; low = r.low; more = omega arith; higher = omega arith }

-- more nodes are live, and no memory is taken
pub grown_matched : (w : Words) (frame : Open) → Room w frame → (vars : Vars) (live : ℕ) → Sound vars → Kept frame.vars vars → live ≤ most_live → frame.live ≤ live → Grown frame (record { vars = vars; live = live; top = frame.top })
grown_matched w frame r vars live s k l h = record { sound = s; kept = k; few = l; low = omega (arith, r.low); more = h; higher = omega arith }

pub grown_more : {a b c : Open} → Grown a b → Grown b c → Grown a c
grown_more x y = record { sound = y.sound; kept = kept_more x.kept y.kept; few = y.few; low = y.low; more = omega (arith, x.more, y.more); higher = omega (arith, x.higher, y.higher) }

-- the first n variables are where they were
abbrev pub Still : Words → Words → ℕ → Type 0
Still before after n = Sound (vars_of after n) × Kept (vars_of before n) (vars_of after n)

-- .. also after more were bound
pub still_after : {before now : Words} {n : ℕ} {v : Vars} → Still before now n → Sound v → Kept (vars_of now n) v → Still before v.starts n
still_after {now = now} {n = n} {v = v} s sound k = (sound_back (vars_of now n) v s.0 sound, kept_more s.1 (kept_back (vars_of now n) v k))

-- no more is open, whatever lies past the variables that are bound
pub grown_still : {w : Words} {frame : Open} → Room w frame → (vars : Vars) → Sound vars → Kept frame.vars vars → Grown frame (record { vars = vars; live = frame.live; top = frame.top })
grown_still {w} {frame} r vars s k = grown_matched w frame r vars frame.live s k r.few (omega arith)

-- what is open stays so when the words above change
pub held_kept : {g : Grammar} {w w' : Words} {frame : Open} {b : Bindings} → take frame.top w' ≡ take frame.top w → Held g w frame b → Held g w' frame b
held_kept e h = record { stands = rw e h.stands; counted = h.counted }

-- .. and whatever lies past the variables that are bound
pub held_still : {g : Grammar} {w : Words} {b : Bindings} {live top : ℕ} (u v : Vars) → v.n ≡ u.n → Kept u v → Held g w (record { vars = u; live = live; top = top }) b → Held g w (record { vars = v; live = live; top = top }) b
held_still {g} {w} {b} u v e k h = record { stands = rw (starts_kept u v e k) h.stands; counted = h.counted }
