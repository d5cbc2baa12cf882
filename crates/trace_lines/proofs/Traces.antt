-- A trace grows by the line of one more event.
use Rattle.std.proofs.Common.{◌≡◌, ℕ, List, [], ◌∷◌, ◌++◌, refl, ap, sym, ◌∙◌, append_assoc, append-nil}
use Rattle.run_types.specs.declared.run.Event.{Event}
use Rattle.trace_lines.specs.declared.window.Window.{Window}
use Rattle.trace_lines.specs.Windows.{IsTrace, Shows}

pub trace_more : (w : Window) (lines : List (ℕ × Event)) (line : ℕ × Event) (text own : List ℕ) → IsTrace w lines text → Shows w line own
    → IsTrace w (lines ++ line ∷ []) (text ++ own)
trace_more w [] line text own is shows = (own, [], ap (λ t. t ++ own) is ∙ sym (append-nil own), shows, refl)
trace_more w (l ∷ lines) line text own (first, rest, is, shown, more) shows = (
  first,
  rest ++ own,
  ap (λ t. t ++ own) is ∙ append_assoc first rest own,
  shown,
  trace_more w lines line rest own more shows,
)
