use Rattle.span_csv.proofs.NumberedLemmas.{stands_there}
use Rattle.span_csv.proofs.numbered.place.Goals as goal

pub returns-then-stands-clause-room : goal.returns-then-stands-clause-room
returns-then-stands-clause-room c =
    (stands_there c.args.most c.args.known.now.keys c.args.last c.args.name.now (c.requires.stands c.if-stands.true)).0

pub returns-then-stands-clause-taken : goal.returns-then-stands-clause-taken
returns-then-stands-clause-taken c =
    (stands_there c.args.most c.args.known.now.keys c.args.last c.args.name.now (c.requires.stands c.if-stands.true)).1
