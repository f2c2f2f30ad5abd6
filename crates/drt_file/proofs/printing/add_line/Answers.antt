use Rattle.drt_file.proofs.Joins.{line_done}
use Rattle.drt_file.proofs.printing.add_line.Goals as goal

pub returns-clause-line : goal.returns-clause-line
returns-clause-line c = line_done c.args.text.now.items c.add_words.new.text.items c.push.new.self.items c.args.words.now c.in_ok-add_words.ensures.words c.in_ok-push.ensures.items
