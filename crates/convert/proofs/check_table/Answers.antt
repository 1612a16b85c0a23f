use Rattle.words.proofs.Laws.{exits}
use Rattle.grammar.specs.Grammar.{read_grammar}
use Rattle.tables.specs.Tables.{read_of}
use Rattle.convert.specs.Table.{read_table}
use Rattle.convert.proofs.Outcome.{table_bad, table_alone}
use Rattle.convert.proofs.check_table.Goals as goal

pub returns-in_err-fitting : goal.returns-in_err-fitting
returns-in_err-fitting c = λ a sa. rw (exits c.from_residual.result c.from_residual.ensures) (table_bad c.args.table.now (read_table a (read_of (read_grammar c.args.new.now)) c.args.table.now) (c.read.ensures a _ (record { types = sa.types; classes = sa.classes }) (record { types = c.fill.ensures.types; classes = c.fill.ensures.classes })) c.in_err-fitting.was)

pub returns : goal.returns
returns c = λ a sa. table_alone c.args.table.now (read_table a (read_of (read_grammar c.args.new.now)) c.args.table.now) (c.read.ensures a _ (record { types = sa.types; classes = sa.classes }) (record { types = c.fill.ensures.types; classes = c.fill.ensures.classes })) c.in_ok-fitting.was
