-- The values of each argument after the items that were read.
use Rattle.std.proofs.Common.{◌≡◌, ◌∙◌, ◌++◌, true, false, List, [], ◌∷◌, length, refl, sym, ap, codes, cond, arith, inl, inr}
use Rattle.std.specs.Prelude.{unwrap_or}
use Rattle.std.specs.List.{fold, list_all}
use Rattle.std.specs.Str.{bytes_eq}
use Rattle.std.proofs.lemmas.Bool.{and_parts, cases_Bool}
use Rattle.std.proofs.lemmas.Slice.Eq.{bytes_eq-Decides}
use Rattle.std.proofs.Common.{append-nil, append_assoc}
use Rattle.clap.specs.Walk.{Row, all_of}
use Rattle.dsu_cli.specs.declared.setting.Setting.{Setting}
use Rattle.dsu_cli.specs.declared.setting.Setting.TheVariants.{Offer, Workers, Moves, Objects, Engine}
use Rattle.dsu_cli.specs.declared.setting.Switch.{Switch}
use Rattle.dsu_cli.specs.Words.{Text, Item, positional, option, switch, positionals, uses, values}
use Rattle.dsu_cli.specs.Fit.{name_of, switch_name}
use Rattle.dsu_cli.specs.Sorted.{is_known}
use Rattle.dsu_cli.proofs.Walk.{put, put_item}
use Rattle.dsu_cli.proofs.Names.{apart_switch, setting_is, setting_no_switch, switch_apart, switch_is}

-- the values of an argument
abbrev pub values_in : Text → List Row → List Text
values_in id rows = unwrap_or (all_of id rows) []

same_text : (a : Text) → bytes_eq a a ≡ true
same_text a = (bytes_eq-Decides a a).1 refl

put_same : (id v : Text) (rows : List Row) → values_in id (put id v rows) ≡ values_in id rows ++ v ∷ []
put_same id v [] = rw (same_text id) refl
put_same id v (r ∷ rows) = elim (cases_Bool (bytes_eq r.id id)) [
  | inl is ↦ rw (is, is) refl
  | inr isnt ↦ rw (isnt, isnt) (put_same id v rows)
]

put_other : (id other v : Text) (rows : List Row) → bytes_eq other id ≡ false → values_in id (put other v rows) ≡ values_in id rows
put_other id other v [] apart = rw apart refl
put_other id other v (r ∷ rows) apart = elim (cases_Bool (bytes_eq r.id other)) [
  | inl is ↦
      let skips : bytes_eq r.id id ≡ false = ap (λ x. bytes_eq x id) ((bytes_eq-Decides r.id other).0 is) ∙ apart in
      rw (is, skips) refl
  | inr isnt ↦ elim (cases_Bool (bytes_eq r.id id)) [
    | inl here ↦ rw (isnt, here) refl
    | inr past ↦ rw (isnt, past) (put_other id other v rows apart)
  ]
]

-- what the items add to an argument
abbrev flat : (Item → List Text) → List Item → List Text
flat f [] = []
flat f (item ∷ its) = f item ++ flat f its

collects : (id : Text) (f : Item → List Text)
    → ((item : Item) (rows : List Row) → is_known item ≡ true → values_in id (put_item rows item) ≡ values_in id rows ++ f item)
    → (its : List Item) (rows : List Row) → list_all is_known its ≡ true → values_in id (fold put_item rows its) ≡ values_in id rows ++ flat f its
collects id f step [] rows k = sym (append-nil _)
collects id f step (item ∷ its) rows k =
    let all = and_parts _ _ k in
    collects id f step its (put_item rows item) all.1 ∙ ap (λ vs. vs ++ flat f its) (step item rows all.0) ∙ append_assoc (values_in id rows) (f item) (flat f its)

-- ---- positionals

abbrev of_files : Item → List Text
of_files (positional word) = word ∷ []
of_files _ = []

setting_apart : (s : Setting) → bytes_eq (name_of s) (codes "files") ≡ false
setting_apart Offer = refl
setting_apart Workers = refl
setting_apart Moves = refl
setting_apart Objects = refl
setting_apart Engine = refl

files_step : (item : Item) (rows : List Row) → is_known item ≡ true → values_in (codes "files") (put_item rows item) ≡ values_in (codes "files") rows ++ of_files item
files_step (positional word) rows k = put_same (codes "files") word rows
files_step (option name v) rows k =
    let s = setting_is name (and_parts _ _ k).0 in
    (put_other (codes "files") name v rows (ap (λ n. bytes_eq n (codes "files")) s.1 ∙ setting_apart s.0) ∙ sym (append-nil _))
files_step (switch name) rows k =
    let s = switch_is name k in
    (put_other (codes "files") name (codes "true") rows (ap (λ n. bytes_eq n (codes "files")) s.1 ∙ switch_apart s.0 (codes "files") refl) ∙ sym (append-nil _))

files_flat : (its : List Item) → flat of_files its ≡ positionals its
files_flat [] = refl
files_flat (positional word ∷ its) = ap (λ ws. word ∷ ws) (files_flat its)
files_flat (option name v ∷ its) = files_flat its
files_flat (switch name ∷ its) = files_flat its

pub files_in : (its : List Item) → list_all is_known its ≡ true → values_in (codes "files") (fold put_item [] its) ≡ positionals its
files_in its k = collects (codes "files") of_files files_step its [] k ∙ files_flat its

-- ---- options with a value

abbrev of_option : Text → Item → List Text
of_option name (option other v) = cond (bytes_eq other name) (v ∷ []) []
of_option name _ = []

files_apart : (s : Setting) → bytes_eq (codes "files") (name_of s) ≡ false
files_apart Offer = refl
files_apart Workers = refl
files_apart Moves = refl
files_apart Objects = refl
files_apart Engine = refl

option_step : (s : Setting) (item : Item) (rows : List Row) → is_known item ≡ true
    → values_in (name_of s) (put_item rows item) ≡ values_in (name_of s) rows ++ of_option (name_of s) item
option_step s (positional word) rows k = (put_other (name_of s) (codes "files") word rows (files_apart s) ∙ sym (append-nil _))
option_step s (option name v) rows k = elim (cases_Bool (bytes_eq name (name_of s))) [
  | inl is ↦ rw is (ap (λ n. values_in (name_of s) (put n v rows)) ((bytes_eq-Decides name (name_of s)).0 is) ∙ put_same (name_of s) v rows)
  | inr isnt ↦ rw isnt ((put_other (name_of s) name v rows isnt ∙ sym (append-nil _)))
]
option_step s (switch name) rows k =
    let used = switch_is name k in
    (put_other (name_of s) name (codes "true") rows (ap (λ n. bytes_eq n (name_of s)) used.1 ∙ switch_apart used.0 (name_of s) (setting_no_switch s)) ∙ sym (append-nil _))

option_flat : (name : Text) (its : List Item) → flat (of_option name) its ≡ values name its
option_flat name [] = refl
option_flat name (positional word ∷ its) = option_flat name its
option_flat name (option other v ∷ its) = elim (cases_Bool (bytes_eq other name)) [
  | inl is ↦ rw is (ap (λ ws. v ∷ ws) (option_flat name its))
  | inr isnt ↦ rw isnt (option_flat name its)
]
option_flat name (switch other ∷ its) = option_flat name its

pub option_in : (s : Setting) (its : List Item) → list_all is_known its ≡ true → values_in (name_of s) (fold put_item [] its) ≡ values (name_of s) its
option_in s its k = collects (name_of s) (of_option (name_of s)) (option_step s) its [] k ∙ option_flat (name_of s) its

-- ---- options without a value

abbrev of_switch : Text → Item → List Text
of_switch name (switch other) = cond (bytes_eq other name) (codes "true" ∷ []) []
of_switch name _ = []

-- a known option with a value is no other
option_apart : (s : Switch) (name v : Text) → is_known (option name v) ≡ true → bytes_eq name (switch_name s) ≡ false
option_apart s name v k =
    let found = setting_is name (and_parts _ _ k).0 in
    ap (λ n. bytes_eq n (switch_name s)) found.1 ∙ apart_switch (name_of found.0) s (setting_no_switch found.0)

switch_step : (s : Switch) (item : Item) (rows : List Row) → is_known item ≡ true
    → values_in (switch_name s) (put_item rows item) ≡ values_in (switch_name s) rows ++ of_switch (switch_name s) item
switch_step s (positional word) rows k = (put_other (switch_name s) (codes "files") word rows (apart_switch (codes "files") s refl) ∙ sym (append-nil _))
switch_step s (option name v) rows k = (put_other (switch_name s) name v rows (option_apart s name v k) ∙ sym (append-nil _))
switch_step s (switch name) rows k = elim (cases_Bool (bytes_eq name (switch_name s))) [
  | inl is ↦
      rw is (ap (λ n. values_in (switch_name s) (put n (codes "true") rows)) ((bytes_eq-Decides name (switch_name s)).0 is) ∙ put_same (switch_name s) (codes "true") rows)
  | inr isnt ↦ rw isnt ((put_other (switch_name s) name (codes "true") rows isnt ∙ sym (append-nil _)))
]

switch_uses : (s : Switch) (its : List Item) → list_all is_known its ≡ true → length (flat (of_switch (switch_name s)) its) ≡ uses (switch_name s) its
switch_uses s [] k = refl
switch_uses s (positional word ∷ its) k = switch_uses s its (and_parts _ _ k).1
switch_uses s (option name v ∷ its) k =
    let all = and_parts _ _ k in
    rw (option_apart s name v all.0) (switch_uses s its all.1)
switch_uses s (switch name ∷ its) k =
    let rest : length (flat (of_switch (switch_name s)) its) ≡ uses (switch_name s) its = switch_uses s its (and_parts _ _ k).1 in
    elim (cases_Bool (bytes_eq name (switch_name s))) [
      | inl is ↦ rw is (omega arith)
      | inr isnt ↦ rw isnt rest
    ]

pub switch_in : (s : Switch) (its : List Item) → list_all is_known its ≡ true → length (values_in (switch_name s) (fold put_item [] its)) ≡ uses (switch_name s) its
switch_in s its k = ap length (collects (switch_name s) (of_switch (switch_name s)) (switch_step s) its [] k) ∙ switch_uses s its k
