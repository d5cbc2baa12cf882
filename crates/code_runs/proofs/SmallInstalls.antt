-- What newer texts do to a small run: fields over two installs, and an install with a global of another type and a mutex that is held.
use Rattle.std.proofs.Common.{◌≡◌, ℕ, zero, suc, Bool, true, false, List, [], ◌∷◌, arith, Contains, Some, None, pos, codes, bytes_eq, refl, sym, subst, if◌then◌else◌}
use Rattle.std.specs.FinMap.{empty}
use Rattle.std.proofs.lemmas.Option.{none-some, same_Some}
use Rattle.std.proofs.lemmas.Slice.Eq.{bytes_eq-Decides}
use Rattle.c_ints.specs.declared.kind.Kind.{Kind}
use Rattle.c_ints.specs.declared.kind.Kind.TheVariants.{I32, I64}
use Rattle.c_ints.specs.Number.{number}
use Rattle.c_tree.specs.BareExpr.{Bytes, Integer}
use Rattle.c_tree.specs.BareDef.{BareBinding, BareDef, Global, Mutex, Struct}
use Rattle.c_semantics.specs.Texts.{definition}
use Rattle.c_semantics.specs.Values.{Number, Value}
use Rattle.c_semantics.specs.Pieces.{Variable}
use Rattle.source_model.specs.Installs.{has_cells}
use Rattle.program_locks.specs.Locking.{holder_of}
use Rattle.code_runs.specs.CodeData.{Names, new_object, number_of, row}
use Rattle.code_runs.specs.CodeThreads.{CodeWorld}
use Rattle.code_runs.specs.Layouts.{newest_fields}
use Rattle.code_runs.specs.CodeInstalls.{Carries, Installs, holder_after}

-- ---- struct pair { long a; }, then { int a; }, then { int a; int b; }

abbrev a : Bytes
a = codes "a"

abbrev b : Bytes
b = codes "b"

abbrev member : Kind → Bytes → BareBinding
member kind name = record { declared = Integer kind; name = name }

abbrev pair : List BareBinding → List BareDef
pair members = Struct (codes "pair") members ∷ []

abbrev versions : List (List BareDef)
versions = pair (member I64 a ∷ []) ∷ pair (member I32 a ∷ []) ∷ pair (member I32 a ∷ member I32 b ∷ []) ∷ []

abbrev field : Bytes → Value → Variable
field name v = record { name = name; value = v }

abbrev int_of : ℕ → Value
int_of n = Number (number I32 (pos n))

-- the second text gives the field another type, with which it begins anew
first_brought : newest_fields versions (codes "pair") 0 (field a (Number (number I64 (pos 7))) ∷ []) ≡ field a (int_of 0) ∷ field b (int_of 0) ∷ []
first_brought = refl

-- an object of the second text keeps it
second_brought : newest_fields versions (codes "pair") 1 (field a (int_of 7) ∷ []) ≡ field a (int_of 7) ∷ field b (int_of 0) ∷ []
second_brought = refl

last_stays : newest_fields versions (codes "pair") 2 (field a (int_of 7) ∷ field b (int_of 8) ∷ [])
    ≡ field a (int_of 7) ∷ field b (int_of 8) ∷ []
last_stays = refl

-- a new object has the layout of its version
new_layout : (tag : ℕ) → (new_object tag 2).layout ≡ 2
new_layout tag = refl

-- ---- long g; mtx_t m;  and then  int g; mtx_t m;  with m held by slot 2

abbrev g : Bytes
g = codes "g"

abbrev m : Bytes
m = codes "m"

abbrev global : Kind → BareDef
global kind = Global (record { declared = Integer kind; name = g; initial = None })

abbrev text : Kind → List BareDef
text kind = global kind ∷ Mutex m ∷ []

abbrev names : Names
names = record { cells = g ∷ []; mutexes = m ∷ []; tags = [] }

abbrev at : ℕ → ℕ → CodeWorld
at w version = record {
  shared = record {
    cells = (w ∷ []) ∷ [];
    objects = record { capacity = 4; created = 0; live = empty };
    holders = Some 2 ∷ [];
    version = version;
  };
  slots = [];
  threads = 1;
  finish = None;
}

abbrev Kept : Bytes → BareDef → Type 0
Kept name d =
    Carries (text I64) (text I32) name d (definition (text I64) name) (row (at 7 0).shared (number_of names.cells name))
    (row (at 0 1).shared (number_of names.cells name))

g_begins_anew : Kept g (global I32)
g_begins_anew = λ naming tags cells apart stood. refl

each_kept : (name : Bytes) (d : BareDef) → definition (text I32) name ≡ Some d → has_cells d ≡ true → Kept name d
each_kept name d is has = by (bytes_eq name g) refl (bytes_eq name m) is
  where
    no : false ≡ true → ⊥
    no e = cc

    by : (first : Bool) → bytes_eq name g ≡ first → (second : Bool)
        → (if first then Some (global I32) else (if second then Some (Mutex m) else None)) ≡ Some d → Kept name d
    by true named second e =
        subst (Kept name) (same_Some (global I32) d e) (subst (λ n. Kept n (global I32)) (sym ((bytes_eq-Decides name g).0 named)) g_begins_anew)
    by false other true e = absurd (no (subst (λ x. has_cells x ≡ true) (sym (same_Some (Mutex m) d e)) has))
    by false other false e = absurd (none-some d e)

m_stays_held : (name : Bytes) → Contains (m ∷ []) name → let n = number_of (m ∷ []) name in
    holder_of (Some 2 ∷ []) n ≡ holder_after (text I32) name (holder_of (Some 2 ∷ []) n)
m_stays_held name (zero, within, is) =
    subst (λ x. let n = number_of (m ∷ []) x in holder_of (Some 2 ∷ []) n ≡ holder_after (text I32) x (holder_of (Some 2 ∷ []) n)) is refl
m_stays_held name (suc n, within, is) = absurd (omega (arith, within))

g_changes : Installs (text I64 ∷ []) names (text I32) (at 7 0) (at 0 1)
g_changes = record {
  rows = refl;
  cells = each_kept;
  objects = refl;
  mutexes = refl;
  holders = m_stays_held;
  version = refl;
  slots = refl;
  threads = refl;
  finish = refl;
}
