use Rattle.std.proofs.Common.{Some, bytes_eq, string_bytes, if◌then◌else◌, ap, ◌∙◌}
use Rattle.std.specs.Cmp.Lexicographic.{nat_list_eq_equiv}
use Rattle.std.proofs.lemmas.Map.Text.{hash_map_updates_text}
use Rattle.source_programs.specs.Places.{place_in}
use Rattle.source_programs.proofs.places.Places.put.Goals as goal

pub returns : goal.returns
returns c = λ other.
    let bytes = string_bytes c.in_ok-owned.owned in
    hash_map_updates_text bytes c.args.self.now.by_name c.insert.new.self (Some c.args.place) c.in_ok-insert.ensures.updates other
    ∙ ap (λ b. if b then Some c.args.place else place_in c.args.self.now other)
    (nat_list_eq_equiv.symm bytes other ∙ ap (bytes_eq other) c.in_ok-owned.ensures.ok)
