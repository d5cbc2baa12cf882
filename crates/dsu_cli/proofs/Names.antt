-- The names of options.
use Rattle.std.proofs.Common.{◌≡◌, ◌∙◌, true, false, true≢false, Option, Some, None, refl, sym, ap, codes, inl, inr}
use Rattle.std.specs.Prelude.{is_some}
use Rattle.std.specs.Str.{bytes_eq}
use Rattle.std.proofs.lemmas.Bool.{cases_Bool}
use Rattle.std.proofs.lemmas.Option.{none-some, same_Some}
use Rattle.std.proofs.lemmas.Slice.Eq.{bytes_eq-Decides}
use Rattle.dsu_cli.specs.declared.setting.Setting.{Setting}
use Rattle.dsu_cli.specs.declared.setting.Setting.TheVariants.{Offer, Workers, Moves, Objects, Engine}
use Rattle.dsu_cli.specs.declared.setting.Switch.{Switch}
use Rattle.dsu_cli.specs.declared.setting.Switch.TheVariants.{Journal, Explain}
use Rattle.dsu_cli.specs.Words.{Text, is_switch}
use Rattle.dsu_cli.specs.Fit.{name_of, setting_of, switch_name, switch_of}

-- the text is no option's name
pub record IsOther (name : Text) : Type 0 where
  pub offer : bytes_eq name (codes "offer") ≡ false
  pub workers : bytes_eq name (codes "workers") ≡ false
  pub moves : bytes_eq name (codes "moves") ≡ false
  pub objects : bytes_eq name (codes "objects") ≡ false
  pub engine : bytes_eq name (codes "engine") ≡ false

pub data NameView (name : Text) : Type 0 where
  known : (setting : Setting) → name ≡ name_of setting → NameView name
  other : IsOther name → NameView name

pub name_view : (name : Text) → NameView name
name_view name = elim (cases_Bool (bytes_eq name (codes "offer"))) [
  | inl is ↦ known Offer ((bytes_eq-Decides name _).0 is)
  | inr a ↦ elim (cases_Bool (bytes_eq name (codes "workers"))) [
    | inl is ↦ known Workers ((bytes_eq-Decides name _).0 is)
    | inr b ↦ elim (cases_Bool (bytes_eq name (codes "moves"))) [
      | inl is ↦ known Moves ((bytes_eq-Decides name _).0 is)
      | inr d ↦ elim (cases_Bool (bytes_eq name (codes "objects"))) [
        | inl is ↦ known Objects ((bytes_eq-Decides name _).0 is)
        | inr e ↦ elim (cases_Bool (bytes_eq name (codes "engine"))) [
          | inl is ↦ known Engine ((bytes_eq-Decides name _).0 is)
          | inr f ↦ other (record { offer = a; workers = b; moves = d; objects = e; engine = f })
        ]
      ]
    ]
  ]
]

pub setting_named : (setting : Setting) → setting_of (name_of setting) ≡ Some setting
setting_named Offer = refl
setting_named Workers = refl
setting_named Moves = refl
setting_named Objects = refl
setting_named Engine = refl

pub setting_other : (name : Text) → IsOther name → setting_of name ≡ None
setting_other name h = rw (h.offer, h.workers, h.moves, h.objects, h.engine) refl

-- the name of an option that is known
pub name_known : (name : Text) (setting : Setting) → setting_of name ≡ Some setting → name ≡ name_of setting
name_known name setting is = elim (name_view name) [
  | known s e ↦ e ∙ ap name_of (same_Some s setting (sym (setting_named s) ∙ ap setting_of (sym e) ∙ is))
  | other h ↦ absurd (none-some setting (sym (setting_other name h) ∙ is))
]

pub name_other : (name : Text) → setting_of name ≡ None → IsOther name
name_other name none = elim (name_view name) [
  | known s e ↦ absurd (none-some s (sym none ∙ ap setting_of e ∙ setting_named s))
  | other h ↦ h
]

pub none_if_not_some : {T : Type 0} (o : Option T) → is_some o ≡ false → o ≡ None
none_if_not_some None e = refl
none_if_not_some (Some x) e = absurd (true≢false e)

-- the setting of a name that is known
pub setting_is : (name : Text) → is_some (setting_of name) ≡ true → (s : Setting) × (name ≡ name_of s)
setting_is name is = elim (name_view name) [
  | known s e ↦ (s, e)
  | other h ↦ absurd (true≢false (sym is ∙ ap is_some (setting_other name h)))
]

-- ---- options without a value

data SwitchView (name : Text) : Type 0 where
  named : (s : Switch) → name ≡ switch_name s → SwitchView name
  unnamed : is_switch name ≡ false → switch_of name ≡ None → SwitchView name

switch_view : (name : Text) → SwitchView name
switch_view name = elim (cases_Bool (bytes_eq name (codes "journal"))) [
  | inl is ↦ named Journal ((bytes_eq-Decides name _).0 is)
  | inr a ↦ elim (cases_Bool (bytes_eq name (codes "explain"))) [
    | inl is ↦ named Explain ((bytes_eq-Decides name _).0 is)
    | inr b ↦ unnamed (rw (a, b) refl) (rw (a, b) refl)
  ]
]

-- an option without a value is known by its name
pub switch_named : (s : Switch) → is_switch (switch_name s) ≡ true
switch_named Journal = refl
switch_named Explain = refl

switch_found : (s : Switch) → switch_of (switch_name s) ≡ Some s
switch_found Journal = refl
switch_found Explain = refl

-- the option that a name is known to be
pub switch_is : (name : Text) → is_switch name ≡ true → (s : Switch) × (name ≡ switch_name s)
switch_is name is = elim (switch_view name) [
  | named s e ↦ (s, e)
  | unnamed isnt _ ↦ absurd (true≢false (sym is ∙ isnt))
]

pub switch_known : (name : Text) (s : Switch) → switch_of name ≡ Some s → name ≡ switch_name s
switch_known name s is = elim (switch_view name) [
  | named found e ↦ e ∙ ap switch_name (same_Some found s (sym (switch_found found) ∙ ap switch_of (sym e) ∙ is))
  | unnamed _ none ↦ absurd (none-some s (sym none ∙ is))
]

pub not_switch : (name : Text) → switch_of name ≡ None → is_switch name ≡ false
not_switch name none = elim (switch_view name) [
  | named s e ↦ absurd (none-some s (sym none ∙ ap switch_of e ∙ switch_found s))
  | unnamed isnt _ ↦ isnt
]

-- its name is no other
pub switch_apart : (s : Switch) (name : Text) → is_switch name ≡ false → bytes_eq (switch_name s) name ≡ false
switch_apart s name other_name = elim (cases_Bool (bytes_eq (switch_name s) name)) [
  | inl is ↦ absurd (true≢false (sym (switch_named s) ∙ ap is_switch ((bytes_eq-Decides (switch_name s) name).0 is) ∙ other_name))
  | inr isnt ↦ isnt
]

pub apart_switch : (name : Text) (s : Switch) → is_switch name ≡ false → bytes_eq name (switch_name s) ≡ false
apart_switch name s other_name = elim (cases_Bool (bytes_eq name (switch_name s))) [
  | inl is ↦ absurd (true≢false (sym (switch_named s) ∙ ap is_switch (sym ((bytes_eq-Decides name (switch_name s)).0 is)) ∙ other_name))
  | inr isnt ↦ isnt
]

-- the name of an option with a value isn't one
pub setting_no_switch : (s : Setting) → is_switch (name_of s) ≡ false
setting_no_switch Offer = refl
setting_no_switch Workers = refl
setting_no_switch Moves = refl
setting_no_switch Objects = refl
setting_no_switch Engine = refl
