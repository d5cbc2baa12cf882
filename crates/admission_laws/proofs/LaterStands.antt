-- Threads stand as they did where a patch is installed that leaves the interfaces of the names of their concrete sets.
use Rattle.std.proofs.Common.{◌≡◌, ℕ, false, List, [], ◌∷◌, ◌++◌, Option, Some, sym, ap, subst, ◌∙◌}
use Rattle.c_tree.specs.BareExpr.{Bytes}
use Rattle.name_sets.specs.NameLists.{is_among}
use Rattle.c_semantics.specs.Changes.{interface}
use Rattle.c_semantics.specs.SourceTexts.{Text}
use Rattle.c_semantics.specs.Store.{Mark, Start, store}
use Rattle.c_semantics.specs.Threads.{Frame, Enter, Record}
use Rattle.effects.specs.Rows.{InConcrete}
use Rattle.effects.specs.Rows as rows
use Rattle.source_model.specs.Versions.{Table}
use Rattle.source_model.specs.Guards.{Seat}
use Rattle.version_laws.specs.Histories.{IsHistory, last_text}
use Rattle.admission_laws.specs.SoundTexts.{is_function, definitions_of}
use Rattle.admission_laws.specs.Stacks.{Stacked, MayUse}
use Rattle.admission_laws.specs.InTransactions.{InTransaction, IsStill}
use Rattle.admission_laws.specs.Standing.{Placed, StandsAt, Starting, FramesStand}
use Rattle.admission_laws.proofs.StackUses.{may_use_is_concrete}
use Rattle.admission_laws.proofs.LargerStores.{stacked as stacked_more, passes as passes_more, may_use_before}
use Rattle.admission_laws.proofs.Covering.{covers_place, placed_more}
use Rattle.admission_laws.proofs.LaterTexts.{grows, version_kept, version_within, sits_later, wait_later}
use Rattle.admission_laws.proofs.RightUses.{right_later}

module _ (texts : List Text) (q : Text) (table next : Table) (h : IsHistory (definitions_of texts) table)
    (later : IsHistory (definitions_of (texts ++ q ∷ [])) next) (seat seat' : Seat) (same_mark : seat'.mark ≡ seat.mark)
    (same_check_in : seat'.at_check_in ≡ seat.at_check_in)
    (left : (mark : Mark) (name : Bytes) → seat.mark ≡ Some mark → InConcrete (store texts) mark name
    → is_among (interface (last_text (definitions_of texts)) q.definitions) name ≡ false) where
  stands_later : (f : Frame) (fs : List Frame) (due : Option Enter) (depth : ℕ) (uses : Record) (st : StandsAt texts table f fs due depth uses seat)
      → InTransaction (texts ++ q ∷ []) next depth uses seat'.pinned st.site st.own due st.levels
      → StandsAt (texts ++ q ∷ []) next f fs due depth uses seat'
  stands_later f fs due depth uses st transaction =
      let g = grows texts q in record {
        site = st.site;
        sits = sits_later texts q f st.site.body st.sits;
        point = st.point;
        levels = st.levels;
        wait = wait_later texts q fs st.levels st.wait;
        stacked = subst (λ bodies. Stacked bodies st.site st.levels) (sym g.grows) (stacked_more (store texts) g.more st.site st.levels st.stacked);
        mark = st.mark;
        marked = same_mark ∙ st.marked;
        placed =
            subst (Placed (store (texts ++ q ∷ [])) st.mark st.site f.version due) (sym same_check_in)
            (subst (λ bodies. Placed bodies st.mark st.site f.version due seat.at_check_in) (sym g.grows)
            (placed_more (store texts) g.more st.mark st.site f.version due seat.at_check_in st.placed));
        right = λ u name x.
            let before = may_use_before (store texts) g.more st.site f.version st.levels u name
            (subst (λ bodies. MayUse bodies st.site f.version st.levels u name) g.grows x) st.stacked in
            right_later texts q table next h later u name (st.right u name before)
            (left st.mark name st.marked
            (rows.InConcrete.covered st.mark st.site name
            (covers_place (store texts) st.mark st.site f.version due seat.at_check_in st.placed)
            (may_use_is_concrete (store texts) st.site f.version st.levels u name before st.stacked)));
        still = subst (λ bodies. IsStill bodies st.site) (sym g.grows) (passes_more (store texts) g.more st.site _ st.still);
        own = st.own;
        transaction = transaction;
      }

  starting_later : (due : Option Enter) (depth : ℕ) (uses : Record) → (depth ≡ 0 → seat.pinned ≡ false → seat'.pinned ≡ false)
      → Starting texts table due depth uses seat → Starting (texts ++ q ∷ []) next due depth uses seat'
  starting_later due depth uses unpinned s = record {
    enter = s.enter;
    is_due = s.is_due;
    marked = same_mark ∙ s.marked;
    at_check_in = same_check_in ∙ s.at_check_in;
    version = version_within texts q s.enter.version s.version;
    function_is = ap is_function (version_kept texts q s.enter.version s.enter.function s.version) ∙ s.function_is;
    right =
        right_later texts q table next h later s.enter.version s.enter.function s.right
        (left (Start s.enter.function) s.enter.function s.marked (rows.entering s.enter.function));
    outside = s.outside;
    none_recorded = s.none_recorded;
    unpinned = unpinned s.outside s.unpinned;
  }

  pub frames_later : (fs : List Frame) (due : Option Enter) (depth : ℕ) (uses : Record)
      → (depth ≡ 0 → seat.pinned ≡ false → seat'.pinned ≡ false)
      → ((f : Frame) (fs : List Frame) (st : StandsAt texts table f fs due depth uses seat)
      → InTransaction (texts ++ q ∷ []) next depth uses seat'.pinned st.site st.own due st.levels)
      → FramesStand texts table fs due depth uses seat → FramesStand (texts ++ q ∷ []) next fs due depth uses seat'
  frames_later [] due depth uses unpinned transaction s = starting_later due depth uses unpinned s
  frames_later (f ∷ fs) due depth uses unpinned transaction st = stands_later f fs due depth uses st (transaction f fs st)
