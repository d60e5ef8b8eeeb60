use Rattle.reader.specs.Views.{view}
use Rattle.desk.proofs.Found.{line_bounds}
use Rattle.desk.proofs.Rooms.{room_law}
use Rattle.desk.proofs.desk.Desk.room.Goals as goal

pub returns-clause-law : goal.returns-clause-law
returns-clause-law c =
    let line = c.requires.ready.line in
    room_law (view c.args.self.now.reader) line.0 line.1 (line_bounds c.args.self.now line.0 line.1).0
