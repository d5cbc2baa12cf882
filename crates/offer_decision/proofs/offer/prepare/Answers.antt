use Rattle.std.proofs.Common.{Err, ap, refl}
use Rattle.offer_decision.proofs.Whole.{of_fault}
use Rattle.offer_decision.proofs.offer.prepare.Goals as goal

pub returns-in_ok-rows-in-Ok-clause-prepared : goal.returns-in_ok-rows-in-Ok-clause-prepared
returns-in_ok-rows-in-Ok-clause-prepared c = λ rows.
    let e = c.in-Ok.ensures in
    record {
      count = refl;
      found = λ texts are. (
        e.patch texts are,
        record {
          names = e.names texts are;
          ids = e.ids;
          changed = e.changed texts are;
          interface = e.interface texts are;
          bodies = e.bodies texts are;
          new = e.new texts are;
          room = e.room;
          store = e.store texts are;
          changing = e.changing;
          transforms = e.transforms;
        },
        c.in_ok-rows-in-Ok.ensures rows,
      );
    }

pub returns-in-Err-clause-prepared : goal.returns-in-Err-clause-prepared
returns-in-Err-clause-prepared c = λ rows.
    of_fault c.args.offered.versions c.args.offered.text.now c.in-Err.fault c.without_patch.result c.in-Err.ensures.fault
    c.without_patch.ensures.count c.without_patch.ensures.found

pub returns-in-Err-clause-undefined : goal.returns-in-Err-clause-undefined
returns-in-Err-clause-undefined c = λ is. c.in-Err.ensures.undefined (ap Err (c.without_patch.ensures.undefined is))
