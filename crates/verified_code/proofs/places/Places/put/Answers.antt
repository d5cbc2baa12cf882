use Rattle.std.proofs.Common.{nat_eq, ◌&&◌, ◌<◌, ℕ, List, Option, Some, length, if◌then◌else◌, refl, ap, subst, sym, ◌∙◌}
use Rattle.std.proofs.lemmas.Option.{slice_get_read}
use Rattle.verified_code.specs.Places.{place_in}
use Rattle.verified_code.proofs.Rows.{put_row}
use Rattle.verified_code.proofs.places.Places.put.Goals as goal

pub returns : goal.returns
returns c = λ f g.
    let rows : List (List (Option ℕ)) = c.self.inside.rows.items in
    let room : c.args.function < length rows = subst (λ (xs : List (List (Option ℕ))). c.args.function < length xs) (sym c.self.view_is) c.in_ok-widen.ensures.room in
    put_row rows c.args.function c.args.generation c.args.place c.index_mut.result.now c.put.new.self room
    (slice_get_read rows (length rows) c.args.function c.index_mut.result.now refl room c.index_mut.ensures.value) c.in_ok-put.ensures f g
    ∙ ap (λ o. if nat_eq f c.args.function && nat_eq g c.args.generation then Some c.args.place else o)
    (ap (λ xs. place_in xs f g) c.self.view_is ∙ c.in_ok-widen.ensures.same f g)
