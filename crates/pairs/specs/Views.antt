-- How the code that reads pairs sees the rules, and what it hands back. Assumes nothing: these are definitions.
use Rattle.std.specs.Prelude.{Bool, Result, ℕ}
use Rattle.words.specs.Reader.{and, Read}
use Rattle.words.specs.Views.{shown}
use Rattle.grammar.specs.Grammar.{Grammar}
use Rattle.tables.specs.Types.{TypesOf, AllTypesOf}
use Rattle.rules.specs.Rules.{Rule, Rules}
use Rattle.judgement.specs.Typing as Typing
use Rattle.judgement.specs.Typing.{Context, applies_rule, fits_scope}
use Rattle.pairs.specs.Book.{Book}
use Rattle.pairs.specs.declared.book.Rulebook.{Rulebook}

-- what holds of every grammar whose types these are, and of every list of rules that stand there
abbrev pub OfBook : Rulebook → (Grammar → Rules → Type 0) → Type 0
OfBook book P = (g : Grammar) → TypesOf g book.types.now.types → (rules : Rules) → Book book.types.now.types.count book.words.now book.starts.now rules → P g rules

-- .. and as many as it has
abbrev pub OfWholeBook : Rulebook → (Grammar → Rules → Type 0) → Type 0
OfWholeBook book P = (g : Grammar) → AllTypesOf g book.types.now.types → (rules : Rules) → Book book.types.now.types.count book.words.now book.starts.now rules → P g rules

-- the variables that are left, and the next position
abbrev pub typed_as : Read Context → Result (Context × ℕ) (ℕ × ℕ)
typed_as = shown (λ Γ. Γ)

-- may the rule be applied here, to a scope of type s?
abbrev pub rule_usable : Typing.Place → Rule → ℕ → Bool
rule_usable here r s = and (applies_rule here r) (fits_scope r s)
