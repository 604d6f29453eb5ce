use Rattle.search.proofs.Tables.{bar-written}
use Rattle.search.proofs.table.Table.bar.Goals as goal

pub returns : goal.returns
returns c = bar-written c.args.self.now c.args.k c.requires c.args.v c.insert.new.self c.index-self-k.result c.insert.ensures
