-- Offers that are read one after the other.
use Rattle.std.proofs.Common.{◌≡◌, ◌⊎◌, inl, inr, ℕ, ◌+◌, ◌<◌, ◌≤◌, List, [], ◌∷◌, ◌++◌, drop, get_or, refl, sym, ◌∙◌, ap, subst, arith, append_assoc, append-nil}
use Rattle.std.specs.Prelude.{length}
use Rattle.std.proofs.lemmas.List.{drop_all, drop_more}
use Rattle.dsu_io.specs.Causes.{FailedReads, NoneFailed}
use Rattle.c_tree.specs.declared.def.Program.{Program}
use Rattle.dsu_cli.specs.declared.job.Offer.{Offer}
use Rattle.dsu_report.specs.declared.fault.FaultLine.{FaultLine}
use Rattle.input_files.specs.Files.{IsShort}
use Rattle.input_files.specs.Sources.{IsFirstOf, IsSource, text_limit}
use Rattle.job_answers.specs.Jobs.{AreKnownPrograms, AreSources, Contents, IsKnownProgram, IsProgramFault, KnownOfferFault, KnownProgramFault, OfferStops, OutOfMemory, lines_of}
use Rattle.reported_runs.specs.Offers.{IsOneMore}
use Rattle.reported_runs.specs.declared.offers.Offers.{Offers}
use Rattle.job_answers.proofs.Stopping.{fault_since}
use Rattle.job_answers.proofs.FailedReads.{none_then, none_yet}
use Rattle.job_answers.proofs.Reading.{IsAnswered}

-- ---- sources

sources_more : (content : Contents) (offers : List Offer) (texts : List (List ℕ)) (programs : List Program) (o : Offer) (text : List ℕ)
    (program : Program) → AreSources content offers texts programs → IsSource (content o.file) text program
    → AreSources content (offers ++ o ∷ []) (texts ++ text ∷ []) (programs ++ program ∷ [])
sources_more content [] [] [] o text program all last = (last, tt)
sources_more content [] [] (p ∷ ps) o text program all last = absurd all
sources_more content [] (t ∷ ts) ps o text program all last = absurd all
sources_more content (x ∷ xs) [] ps o text program all last = absurd all
sources_more content (x ∷ xs) (t ∷ ts) [] o text program all last = absurd all
sources_more content (x ∷ xs) (t ∷ ts) (p ∷ ps) o text program (one, all) last =
    (one, sources_more content xs ts ps o text program all last)

-- there are as many programs as offers
pub sources_length : (content : Contents) (offers : List Offer) (texts : List (List ℕ)) (programs : List Program)
    → AreSources content offers texts programs → length programs ≡ length offers
sources_length content [] [] [] all = refl
sources_length content [] [] (p ∷ ps) all = absurd all
sources_length content [] (t ∷ ts) ps all = absurd all
sources_length content (x ∷ xs) [] ps all = absurd all
sources_length content (x ∷ xs) (t ∷ ts) [] all = absurd all
sources_length content (x ∷ xs) (t ∷ ts) (p ∷ ps) (one, all) =
    let more = sources_length content xs ts ps all in
    omega (arith, more)

lines_more : (offers : List Offer) (o : Offer) → lines_of (offers ++ o ∷ []) ≡ lines_of offers ++ o.lines ∷ []
lines_more [] o = refl
lines_more (x ∷ xs) o = ap (λ ns. x.lines ∷ ns) (lines_more xs o)

pub lines_length : (offers : List Offer) → length (lines_of offers) ≡ length offers
lines_length [] = refl
lines_length (x ∷ xs) = let more = lines_length xs in omega (arith, more)

-- a fault after offers without one
stops_after : (content : Contents) (before now : FailedReads) (line : FaultLine) (file : List ℕ) (offers rest : List Offer)
    (texts : List (List ℕ)) (programs : List Program) → AreSources content offers texts programs
    → OfferStops rest content before now line file → OfferStops (offers ++ rest) content before now line file
stops_after content before now line file [] rest texts programs all stops = stops
stops_after content before now line file (x ∷ xs) rest [] ps all stops = absurd all
stops_after content before now line file (x ∷ xs) rest (t ∷ ts) [] all stops = absurd all
stops_after content before now line file (x ∷ xs) rest (t ∷ ts) (p ∷ ps) (one, all) stops =
    inr (p, (t, one), stops_after content before now line file xs rest ts ps all stops)

-- ---- offers in the midst of their reading

-- the programs of the offers that are left, where those of all are known
abbrev pub Left : Contents → List Offer → List Program → List Program → Type 0
Left content left read programs = (rest : List Program) × (programs ≡ read ++ rest) × AreKnownPrograms content left rest

-- some offers were read, none of whose reads failed, and these are left
pub record IsReading (content : Contents) (start : FailedReads) (offers left : List Offer) (mid : Contents) (at : FailedReads) (read : Offers)
    : Type 0 where
  pub before : List Offer
  pub all : offers ≡ before ++ left
  pub sources : AreSources content before read.texts.items read.programs.items
  pub lines : read.lines.items ≡ lines_of before
  pub same : (other : List ℕ) → mid other ≡ content other
  pub none_failed : NoneFailed start at
  pub known : (programs : List Program) → AreKnownPrograms content offers programs → Left content left read.programs.items programs
  pub wrong : (line : FaultLine) (file : List ℕ) → KnownOfferFault offers content line file → KnownOfferFault left content line file

-- none was
pub begun : (content : Contents) (start : FailedReads) (offers : List Offer) (read : Offers) → read.texts.items ≡ [] → read.programs.items ≡ []
    → read.lines.items ≡ [] → IsReading content start offers offers content start read
begun content start offers read texts programs lines = record {
  before = [];
  all = refl;
  sources = subst {A = List (List ℕ)} (λ ts. AreSources content [] ts read.programs.items) (sym texts)
      (subst {A = List Program} (λ ps. AreSources content [] [] ps) (sym programs) tt);
  lines = lines;
  same = λ other. refl;
  none_failed = none_yet start;
  known = λ ps known. (ps, ap (λ front. front ++ ps) (sym programs), known);
  wrong = λ line file fault. fault;
}

-- the one at an index is next
pub reading_next : (content : Contents) (start : FailedReads) (offers : List Offer) (mid : Contents) (at : FailedReads) (read : Offers) (i : ℕ) (o : Offer)
    → i < length offers → o ≡ get_or offers i o → IsReading content start offers (drop i offers) mid at read
    → IsReading content start offers (o ∷ drop (i + 1) offers) mid at read
reading_next content start offers mid at read i o within is reading =
    subst {A = List Offer} (λ left. IsReading content start offers left mid at read)
    (drop_more offers i o within ∙ ap (λ x. x ∷ drop (i + 1) offers) (sym is)) reading

-- none is next after the last one
pub reading_all : (content : Contents) (start : FailedReads) (offers : List Offer) (mid : Contents) (at : FailedReads) (read : Offers) (i : ℕ)
    → length offers ≤ i → IsReading content start offers (drop i offers) mid at read
    → IsReading content start offers [] mid at read
reading_all content start offers mid at read i long reading =
    subst {A = List Offer} (λ left. IsReading content start offers left mid at read) (drop_all i offers long) reading

module _ (content : Contents) (start : FailedReads) (offers : List Offer) (o : Offer) (left : List Offer) (mid : Contents) (at : FailedReads)
    (read : Offers) (reading : IsReading content start offers (o ∷ left) mid at read) where
  here : mid o.file ≡ content o.file
  here = reading.same o.file

  -- the program of the next offer, where all are known
  next_known : (programs : List Program) → AreKnownPrograms content offers programs
      → (program : Program) × (rest : List Program) × (programs ≡ read.programs.items ++ program ∷ rest)
      × IsKnownProgram (mid o.file) program × AreKnownPrograms content left rest
  next_known programs known = by (reading.known programs known)
    where
      by : Left content (o ∷ left) read.programs.items programs
          → (program : Program) × (rest : List Program) × (programs ≡ read.programs.items ++ program ∷ rest)
          × IsKnownProgram (mid o.file) program × AreKnownPrograms content left rest
      by ([], same, are) = absurd are
      by (p ∷ ps, same, (one, are)) = (p, ps, same, subst (λ c. IsKnownProgram c p) (sym here) one, are)

  -- the next one was read
  module _ (mid' : Contents) (now : FailedReads) (read' : Offers) (more : IsOneMore (mid o.file) o.lines read read')
      (same : (other : List ℕ) → mid' other ≡ mid other) (none : NoneFailed at now)
      (complete : (program : Program) → IsKnownProgram (mid o.file) program → read'.programs.items ≡ read.programs.items ++ program ∷ [])
      (faultless : (line : FaultLine) → KnownProgramFault (mid o.file) line → ⊥) where
    left_after : (programs : List Program) → AreKnownPrograms content offers programs → Left content left read'.programs.items programs
    left_after programs known =
        let next = next_known programs known in (
          next.1,
          next.2 ∙ sym (append_assoc read.programs.items (next.0 ∷ []) next.1)
              ∙ ap (λ front. front ++ next.1) (sym (complete next.0 next.3)),
          next.4,
        )

    wrong_after : (line : FaultLine) (file : List ℕ) → KnownOfferFault (o ∷ left) content line file → KnownOfferFault left content line file
    wrong_after line file (inl (is, fault)) = absurd (faultless line (subst (λ c. KnownProgramFault c line) (sym here) fault))
    wrong_after line file (inr (program, known, fault)) = fault

    pub one_more : IsReading content start offers left mid' now read'
    one_more = record {
      before = reading.before ++ o ∷ [];
      all = reading.all ∙ sym (append_assoc reading.before (o ∷ []) left);
      sources = subst {A = List (List ℕ)} (λ ts. AreSources content (reading.before ++ o ∷ []) ts read'.programs.items) (sym more.texts)
          (subst {A = List Program} (λ ps. AreSources content (reading.before ++ o ∷ []) (read.texts.items ++ more.text ∷ []) ps) (sym more.programs)
          (sources_more content reading.before read.texts.items read.programs.items o more.text more.program reading.sources
          (subst (λ c. IsSource c more.text more.program) here more.source)));
      lines = more.counts ∙ ap (λ ns. ns ++ o.lines ∷ []) reading.lines ∙ sym (lines_more reading.before o);
      same = λ other. same other ∙ reading.same other;
      none_failed = none_then start at now reading.none_failed none;
      known = left_after;
      wrong = λ line file fault. wrong_after line file (reading.wrong line file fault);
    }

  -- the next one wasn't read
  module _ (now : FailedReads) (line : FaultLine) where
    pub stops : OutOfMemory at now line ⊎ IsProgramFault o.file (mid o.file) at now line
        → OutOfMemory start now line ⊎ OfferStops offers content start now line o.file
    stops (inl (none, is)) = inl (none_then start at now reading.none_failed none, is)
    stops (inr fault) =
        inr (subst {A = List Offer} (λ os. OfferStops os content start now line o.file) (sym reading.all)
        (stops_after content start now line o.file reading.before (o ∷ left) read.texts.items read.programs.items reading.sources
        (inl (refl, fault_since text_limit IsFirstOf o.file (content o.file) (mid o.file) start at now line here reading.none_failed fault))))

    pub short_by : ((program : Program) → IsKnownProgram (mid o.file) program → IsShort line)
        → (programs : List Program) → AreKnownPrograms content offers programs → IsShort line
    short_by complete programs known = let next = next_known programs known in complete next.0 next.3

    pub first_by : ((program : Program) → IsKnownProgram (mid o.file) program → IsShort line)
        → ((known : FaultLine) → KnownProgramFault (mid o.file) known → IsAnswered known line)
        → (known : FaultLine) (file : List ℕ) → KnownOfferFault offers content known file
        → ((line ≡ known) × (o.file ≡ file)) ⊎ IsShort line
    first_by complete first known file fault = by (reading.wrong known file fault)
      where
        answered : (file : List ℕ) → file ≡ o.file → IsAnswered known line → ((line ≡ known) × (o.file ≡ file)) ⊎ IsShort line
        answered file is (inl same) = inl (same, sym is)
        answered file is (inr lacks) = inr lacks

        by : KnownOfferFault (o ∷ left) content known file → ((line ≡ known) × (o.file ≡ file)) ⊎ IsShort line
        by (inl (is, wrong)) = answered file is (first known (subst (λ c. KnownProgramFault c known) (sym here) wrong))
        by (inr (program, known, later)) = inr (complete program (subst (λ c. IsKnownProgram c program) (sym here) known))

-- all were read
module _ (content : Contents) (start : FailedReads) (offers : List Offer) (mid : Contents) (at : FailedReads) (read : Offers)
    (reading : IsReading content start offers [] mid at read) where
  pub all_sources : AreSources content offers read.texts.items read.programs.items
  all_sources = subst {A = List Offer} (λ os. AreSources content os read.texts.items read.programs.items) (sym (reading.all ∙ append-nil reading.before))
      reading.sources

  pub all_lines : read.lines.items ≡ lines_of offers
  all_lines = reading.lines ∙ ap lines_of (sym (reading.all ∙ append-nil reading.before))

  pub all_known : (programs : List Program) → AreKnownPrograms content offers programs → read.programs.items ≡ programs
  all_known programs known = by (reading.known programs known)
    where
      by : Left content [] read.programs.items programs → read.programs.items ≡ programs
      by ([], same, are) = sym (same ∙ append-nil read.programs.items)
      by (p ∷ ps, same, are) = absurd are

  pub none_wrong : (line : FaultLine) (file : List ℕ) → KnownOfferFault offers content line file → ⊥
  none_wrong line file fault = reading.wrong line file fault
