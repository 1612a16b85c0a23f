-- `sequences::extend` meets its contract. Assumes nothing.
use native.Mathlib.Omega.{arith}
use Rattle.sequences.proofs.Growing.{extended}
use Rattle.sequences.proofs.extend.Goals as goal

pub push_tree-requires : goal.push_tree-requires
push_tree-requires c = (λ some. omega (arith, c.requires.0 some), omega (arith, c.requires.1, c.push_node.auto.w))

pub returns : goal.returns
returns c = extended c.args.w.now _ _ c.args.to c.args.t c.args.start c.args.m c.requires.0 c.requires.1 c.push_node.ensures c.push_tree.ensures
