-- `writing::put_head` meets its contract. Assumes nothing.
use Rattle.writing.proofs.Over.{head_is}
use borrow.Author.Rules.{rules}
use Rattle.writing.proofs.put_head.Goals as goal

pub returns : goal.returns
returns c = head_is c.args.out.now c.args.at c.args.tag _ (search rules)
