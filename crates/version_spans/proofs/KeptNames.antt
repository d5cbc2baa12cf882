-- The names that are kept of a record, and its uses.
use Rattle.std.proofs.Common.{◌≡◌, Bool, true, false, ◌&&◌, ◌||◌, List, [], ◌∷◌, ◌++◌, map, refl, sym, ap, ◌∙◌, bytes_eq, if◌then◌else◌}
use Rattle.std.specs.Prelude.{All}
use Rattle.std.specs.List.{list_all}
use Rattle.std.proofs.lemmas.Bool.{false≢true, or_right}
use Rattle.std.proofs.lemmas.List.{map-append}
use Rattle.std.proofs.lemmas.List.Elements.{All-head, All-tail}
use Rattle.std.proofs.lemmas.List.Folds.{list_any-append}
use Rattle.std.proofs.lemmas.Slice.Eq.{bytes_eq-Decides}
use Rattle.c_tree.specs.BareExpr.{Bytes}
use Rattle.name_sets.specs.NameLists.{is_among}
use Rattle.name_sets.specs.Texts.{with_text}
use Rattle.c_semantics.specs.Names.{struct_name}
use Rattle.c_semantics.specs.Threads.{Use, Record}
use Rattle.source_model.specs.Versions.{Table}
use Rattle.source_model.specs.Uses.{use_of}
use Rattle.version_spans.specs.declared.names.NameForm.{NameForm as Form}
use Rattle.version_spans.specs.declared.names.NameForm.TheVariants.{Plain, Struct}
use Rattle.version_spans.specs.declared.names.NameSet.{NameSet}
use Rattle.version_spans.specs.Kept.{name_of, names_in, texts_in, with_name}
use Rattle.version_spans.proofs.AmongTexts.{among_with, text_is}

-- the names of uses
abbrev pub used : Record → List Bytes
used uses = map (λ u. u.name) uses

same_text : (x : Bytes) → bytes_eq x x ≡ true
same_text x = (bytes_eq-Decides x x).1 refl

or_first : (a b c : Bool) → ((a || b) || c) ≡ (a || (b || c))
or_first true b c = refl
or_first false b c = refl

or_middle : (a b c : Bool) → (b || (a || c)) ≡ (a || (b || c))
or_middle true true c = refl
or_middle true false c = refl
or_middle false b c = refl

-- a struct's name is among those of some tags where its tag is among them
tag_among : (tags : List Bytes) (tag : Bytes) → is_among tags tag ≡ true → is_among (map struct_name tags) (struct_name tag) ≡ true
tag_among [] tag h = h
tag_among (t ∷ tags) tag h = by (bytes_eq tag t) refl (tag_among tags tag) h
  where
    by : (b : Bool) → bytes_eq tag t ≡ b → (is_among tags tag ≡ true → is_among (map struct_name tags) (struct_name tag) ≡ true)
        → (b || is_among tags tag) ≡ true
        → (bytes_eq (struct_name tag) (struct_name t) || is_among (map struct_name tags) (struct_name tag)) ≡ true
    by true e rest i =
        ap (λ x. bytes_eq (struct_name tag) (struct_name x) || is_among (map struct_name tags) (struct_name tag)) (sym (text_is tag t e))
        ∙ ap (λ b. b || is_among (map struct_name tags) (struct_name tag)) (same_text (struct_name tag))
    by false e rest i = or_right (bytes_eq (struct_name tag) (struct_name t)) _ (rest i)

-- a name that is there in a form is there
pub in_names : (s : NameSet) (form : Form) (text : Bytes) → is_among (texts_in s form) text ≡ true → is_among (names_in s) (name_of form text) ≡ true
in_names s Plain text h =
    list_any-append (bytes_eq text) s.plain (map struct_name s.tags) ∙ ap (λ b. b || is_among (map struct_name s.tags) text) h
in_names s Struct tag h =
    list_any-append (bytes_eq (struct_name tag)) s.plain (map struct_name s.tags)
    ∙ or_right (is_among s.plain (struct_name tag)) _ (tag_among s.tags tag h)

mapped_with : (tags : List Bytes) (tag x : Bytes)
    → is_among (map struct_name (with_text tags tag)) x ≡ (bytes_eq x (struct_name tag) || is_among (map struct_name tags) x)
mapped_with tags tag x = by (is_among tags tag) refl
  where
    or_turned : (a b : Bool) → (a || (b || false)) ≡ (b || a)
    or_turned true true = refl
    or_turned true false = refl
    or_turned false true = refl
    or_turned false false = refl

    there : (b : Bool) → bytes_eq x (struct_name tag) ≡ b → is_among tags tag ≡ true
        → is_among (map struct_name tags) x ≡ (b || is_among (map struct_name tags) x)
    there true e h = ap (is_among (map struct_name tags)) (text_is x (struct_name tag) e) ∙ tag_among tags tag h
    there false e h = refl

    by : (b : Bool) → is_among tags tag ≡ b
        → is_among (map struct_name (if b then tags else tags ++ tag ∷ [])) x ≡ (bytes_eq x (struct_name tag) || is_among (map struct_name tags) x)
    by true e = there (bytes_eq x (struct_name tag)) refl e
    by false e =
        ap (λ l. is_among l x) (map-append struct_name tags (tag ∷ []))
        ∙ list_any-append (bytes_eq x) (map struct_name tags) (struct_name tag ∷ [])
        ∙ or_turned (is_among (map struct_name tags) x) (bytes_eq x (struct_name tag))

-- the names with one more
pub names_with : (s : NameSet) (form : Form) (text x : Bytes)
    → is_among (names_in (with_name s form text)) x ≡ (bytes_eq x (name_of form text) || is_among (names_in s) x)
names_with s Plain text x =
    list_any-append (bytes_eq x) (with_text s.plain text) (map struct_name s.tags)
    ∙ ap (λ b. b || is_among (map struct_name s.tags) x) (among_with s.plain text x)
    ∙ or_first (bytes_eq x text) (is_among s.plain x) (is_among (map struct_name s.tags) x)
    ∙ ap (λ b. bytes_eq x text || b) (sym (list_any-append (bytes_eq x) s.plain (map struct_name s.tags)))
names_with s Struct tag x =
    list_any-append (bytes_eq x) s.plain (map struct_name (with_text s.tags tag))
    ∙ ap (λ b. is_among s.plain x || b) (mapped_with s.tags tag x)
    ∙ or_middle (bytes_eq x (struct_name tag)) (is_among s.plain x) (is_among (map struct_name s.tags) x)
    ∙ ap (λ b. bytes_eq x (struct_name tag) || b) (sym (list_any-append (bytes_eq x) s.plain (map struct_name s.tags)))

-- the names of uses with one more
pub used_with : (uses : Record) (u : Use) (x : Bytes) → is_among (used (uses ++ u ∷ [])) x ≡ (bytes_eq x u.name || is_among (used uses) x)
used_with [] u x = refl
used_with (v ∷ uses) u x =
    ap (λ b. bytes_eq x v.name || b) (used_with uses u x) ∙ or_middle (bytes_eq x u.name) (bytes_eq x v.name) (is_among (used uses) x)

pub there_already : (names : List Bytes) (name x : Bytes) → is_among names name ≡ true → is_among names x ≡ (bytes_eq x name || is_among names x)
there_already names name x h = by (bytes_eq x name) refl
  where
    by : (b : Bool) → bytes_eq x name ≡ b → is_among names x ≡ (b || is_among names x)
    by true e = ap (is_among names) (text_is x name e) ∙ h
    by false e = refl

current_passes : (table : Table) (f : Use → Bool) (name : Bytes) (u : Use) → u ≡ use_of table u.name → name ≡ u.name → f u ≡ true
    → f (use_of table name) ≡ true
current_passes table f name u newest same passes = ap (λ n. f (use_of table n)) same ∙ ap f (sym newest) ∙ passes

passes : (table : Table) (f : Use → Bool) (name : Bytes) (uses : Record) → All (λ u. u ≡ use_of table u.name) uses
    → is_among (used uses) name ≡ true → list_all f uses ≡ true → f (use_of table name) ≡ true
passes table f name [] newest h all = absurd (false≢true h)
passes table f name (u ∷ uses) newest h all =
    by (bytes_eq name u.name) refl h (f u) refl all
    (passes table f name uses (All-tail (λ (v : Use). v ≡ use_of table v.name) u uses newest))
  where
    by : (b : Bool) → bytes_eq name u.name ≡ b → (b || is_among (used uses) name) ≡ true → (t : Bool) → f u ≡ t → (t && list_all f uses) ≡ true
        → (is_among (used uses) name ≡ true → list_all f uses ≡ true → f (use_of table name) ≡ true) → f (use_of table name) ≡ true
    by true e k true is l rest =
        current_passes table f name u (All-head (λ (v : Use). v ≡ use_of table v.name) u uses newest) (text_is name u.name e) is
    by false e k true is l rest = rest k l
    by b e k false is l rest = absurd (false≢true l)

-- where the entries are the current ones, what all uses pass the current entry of a name among them passes
pub repeated : (table : Table) (f : Use → Bool) (uses : Record) (name : Bytes) → All (λ u. u ≡ use_of table u.name) uses
    → is_among (used uses) name ≡ true → list_all f uses ≡ (list_all f uses && f (use_of table name))
repeated table f uses name newest h = by (list_all f uses) refl
  where
    by : (b : Bool) → list_all f uses ≡ b → b ≡ (b && f (use_of table name))
    by true e = sym (passes table f name uses newest h e)
    by false e = refl
