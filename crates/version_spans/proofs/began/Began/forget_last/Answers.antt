use Rattle.std.proofs.Common.{◌≡◌, ℕ, ◌+◌, Option, Some, None, arith}
use Rattle.std.specs.Option.{MatchOption}
use Rattle.version_spans.specs.declared.names.NameSet.{NameSet}
use Rattle.version_spans.proofs.FollowingTexts.{are_popped}
use Rattle.version_spans.proofs.began.Began.forget_last.Goals as goal

none_left : (o : Option NameSet) (old new : ℕ) → MatchOption o ((old ≡ 0) × (new ≡ 0)) (λ _. new + 1 ≡ old) → o ≡ None → old ≡ 0
none_left None old new h e = h.0
none_left (Some s) old new h e = cc

pub returns : goal.returns
returns c = λ texts q.
    are_popped texts q c.args.self.now (record { differences = c.pop.new.self }) c.pop.result c.pop.ensures.items
    (λ e. let none = none_left c.pop.result c.args.self.now.differences.len c.pop.new.self.len c.pop.ensures.cases e in
    let long = c.args.self.now.differences.ok.0 in omega (arith, none, long))
