-- A RULE BOOK PASSES ITS CHECK EXACTLY IF ITS LAYOUT IS RIGHT AND THE RULES THAT IT STANDS FOR ARE WELL TYPED. The check (Layout.antt of `rules`, Typing.antt)
-- reads words; well typed (WellTyped.antt) speaks of the decoded rules alone. proofs/Exactly.antt has the theorem `passes_exactly`: Exactly for every
-- accepted grammar, all words and all rules. Assumes nothing: these are definitions.
use Rattle.std.specs.Prelude.{ℕ, ◌≡◌, length}
use Rattle.words.specs.Reader.{Words, value}
use Rattle.grammar.specs.Grammar.{Grammar}
use Rattle.rules.specs.Rules.{Rules}
use Rattle.rules.specs.Layout.{read_layout}
use Rattle.judgement.specs.Typing.{read_rules}
use Rattle.judgement.specs.WellTyped.{WellTyped}

-- the check refuses nothing in the words, and hands on these rules
abbrev pub Passes : Grammar → Words → Rules → Type 0
Passes g ws rules = (next : ℕ) × (read_rules g ws ≡ value rules next)

-- the layout of the words is right, and these are the rules that they stand for
abbrev pub LaidOut : Grammar → Words → Rules → Type 0
LaidOut g ws rules = (next : ℕ) × (read_layout (length g) ws ≡ value rules next)

-- what passes is exactly what is laid out rightly and well typed
pub record Exactly (g : Grammar) (ws : Words) (rules : Rules) : Type 0 where
  -- what passes is laid out rightly and well typed
  pub sound : Passes g ws rules → LaidOut g ws rules × WellTyped g rules
  -- what is laid out rightly and well typed passes
  pub complete : LaidOut g ws rules → WellTyped g rules → Passes g ws rules
