use Rattle.std.proofs.Common.{◌≡◌, ◌||◌, not, Bool, true, false, [], length, ◌<◌, ap, ◌∙◌}
use Rattle.std.proofs.lemmas.Option.{slice_get_within, get_or_from_slice_get}
use Rattle.name_sets.specs.NameLists.{is_among}
use Rattle.brought_bodies.proofs.NamesUsed.{held}
use Rattle.brought_bodies.proofs.patch.Patch.is_own.Goals as goal

-- what isn't added is looked up
not_first : (a b c d : Bool) → a ≡ c → a ≡ true → b ≡ d → b ≡ (not c || d)
not_first true b c d same old e = e ∙ ap (λ c. not c || d) same
not_first false b c d same old e = cc

pub returns-else-not-is_defined : goal.returns-else-not-is_defined
returns-else-not-is_defined c = λ changed is at.
    let table = c.args.self.now.names.now in
    let name = c.args.name.now in
    let within : c.args.id < length table = slice_get_within table c.args.id name at in
    not_first c.is_defined.result c.holds.result _ (is_among changed name) c.is_defined.ensures c.if-not-is_defined.false
    (held table changed c.args.self.now.changed.now c.args.id c.holds.result is within c.holds.ensures.answer
    ∙ ap (is_among changed) (get_or_from_slice_get table c.args.id name [] at))
