use Rattle.std.proofs.Common.{◌≡◌, ◌++◌, codes, List, ℕ, subst, ◌∙◌, refl, append_assoc}
use Rattle.dsu_io.specs.Sinks.{PutAppends}
use Rattle.crosscheck_report.proofs.write.write_span.Goals as goal

-- pieces one after the other, of which three are known by equations
regrouped : (a c e g : List ℕ) {b b' d d' f f' : List ℕ} → b ≡ b' → d ≡ d' → f ≡ f'
    → a ++ (b ++ (c ++ (d ++ (e ++ (f ++ g))))) ≡ a ++ b' ++ c ++ d' ++ e ++ f' ++ g
regrouped a c e g {b} {b'} {d} {d'} {f} {f'} p q r =
    let flat : a ++ (b ++ (c ++ (d ++ (e ++ (f ++ g))))) ≡ a ++ b ++ c ++ d ++ e ++ f ++ g = simp append_assoc refl in
    let same : a ++ b ++ c ++ d ++ e ++ f ++ g ≡ a ++ b' ++ c ++ d' ++ e ++ f' ++ g = cc in
    flat ∙ same

pub returns-clause-bytes : goal.returns-clause-bytes
returns-clause-bytes g c =
    subst {A = List ℕ} (PutAppends (g.S.Sink.told c.args.sink.now) (g.S.Sink.told c.put_all.new.sink) c.put_all.result)
    (regrouped (codes "transaction thread ") (codes ": versions ") (codes " to ") (codes "\n")
    (c.as_bytes-thread.ensures.value ∙ c.format.ensures.text) (c.as_bytes-first.ensures.value ∙ c.format-2.ensures.text)
    (c.as_bytes-last.ensures.value ∙ c.format-3.ensures.text))
    c.put_all.ensures.bytes
