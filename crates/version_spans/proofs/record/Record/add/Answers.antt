use Rattle.std.proofs.Common.{◌≡◌, ℕ, max, Bool, true, false, not, Option, Some, None, is_some, sym, ap, ap₂, subst, ◌∙◌, ◌++◌, ◌∷◌, []}
use Rattle.std.proofs.lemmas.Bool.{false≢true}
use Rattle.source_model.specs.Uses.{use_of}
use Rattle.version_spans.specs.declared.record.Record.{Record}
use Rattle.version_spans.specs.Kept.{IsKept, name_of}
use Rattle.version_spans.proofs.AddedUses.{use_added, use_repeated}
use Rattle.version_spans.proofs.record.Record.add.Goals.{then-is_none+else-has+in_ok-put, else-is_none}
use Rattle.version_spans.proofs.record.Record.add.Goals as goal

none_where : (o : Option ℕ) (b : Bool) → is_some o ≡ not b → b ≡ true → o ≡ None
none_where None b e h = cc
none_where (Some n) b e h = cc

some_where : (o : Option ℕ) (b : Bool) → is_some o ≡ not b → b ≡ false → o ≡ None → ⊥
some_where o b e h none = false≢true (sym (ap is_some none) ∙ e ∙ ap not h)

pub returns-then-has-clause-kept : goal.returns-then-has-clause-kept
returns-then-has-clause-kept c = λ texts table uses h began defined k.
    use_repeated texts table uses c.args.self.now c.args.form c.args.text.now h defined k
    (none_where c.args.self.now.last c.is_none.result c.is_none.ensures c.if-is_none.true) (sym c.has.ensures ∙ c.if-has.true)

pub returns-clause-kept : goal.returns-clause-kept
returns-clause-kept c = λ texts table uses h began defined k.
    let r = c.args.self.now in
    let form = c.args.form in
    let text = c.args.text.now in
    elim c.if-is_none.branch [
      | then-is_none+else-has+in_ok-put w ↦
          subst (λ (s : Record). IsKept table (uses ++ use_of table (name_of form text) ∷ []) (record { first = c.max-self.result; last = s.last; names = s.names })) (sym w.self-is)
          (use_added texts table uses r form text c.max-self.result w.put.new.self h defined k
          (c.max-self.ensures ∙ ap₂ max (ap (λ (s : Record). s.first) w.self-is) (c.since.ensures texts began)) (λ none. w.in_ok-put.ensures.name))
      | else-is_none w ↦
          subst (λ (s : Record). IsKept table (uses ++ use_of table (name_of form text) ∷ []) (record { first = c.max-self.result; last = s.last; names = s.names })) (sym w.self-is)
          (use_added texts table uses r form text c.max-self.result r.names h defined k
          (c.max-self.ensures ∙ ap₂ max (ap (λ (s : Record). s.first) w.self-is) (c.since.ensures texts began))
          (λ none. absurd (some_where r.last c.is_none.result c.is_none.ensures w.if-is_none.false none)))
    ]
