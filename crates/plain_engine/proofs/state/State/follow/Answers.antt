use Rattle.std.proofs.Common.{refl, subst}
use Rattle.source_model.specs.Answers.{Installed}
use Rattle.source_model.specs.Guards.{answered}
use Rattle.dsu_runs.specs.Books.{IsBook}
use Rattle.plain_engine.specs.Plain.{state_shown}
use Rattle.plain_engine.proofs.state.State.follow.Goals as goal

pub returns-clause-followed : goal.returns-clause-followed
returns-clause-followed g c = λ setup x after is.
    let s = state_shown g.M.Machine.shown c.args.self.now in
    record {
      run = is.run;
      seats = is.seats c.with_pins-self.result c.with_pins-self.ensures;
      versions = record {
        installed = is.installed;
        before = x.versions;
        tree = is.tree;
        numbered = is.numbered;
        last_is = is.versions;
        rows = is.rows;
      };
      book = is.closed c.close.new.self
          (subst (λ n. IsBook setup (answered c.args.k (Installed n) x) s.installed.names c.close.new.self) c.count.ensures
          (c.close.ensures setup x s.installed.names (Installed c.count.result) is.book is.offered (λ more. refl)));
      reached = is.reached;
      meets = is.meets;
    }
