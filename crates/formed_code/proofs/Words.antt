-- What instructions make of shapes: those of variables, constants, operators, places and stops.
use Rattle.std.proofs.Common.{◌≡◌, ◌<◌, ℕ, zero, suc, ◌+◌, ◌==◌, Bool, true, false, cond, IsTrue, List, [], ◌∷◌, ◌++◌, map, reverse, take, find, length, slice_get, bytes_eq, Option, Some, None, refl, sym, ap, ◌∙◌, arith, length-append, append_assoc, append-nil, eq-eqb}
use Rattle.std.proofs.lemmas.List.{reverse-append}
use Rattle.std.specs.Prelude.{nat_le, nat_lt, option_map, if◌then◌else◌, ◌&&◌}
use Rattle.std.specs.Option.{is_some, option_and_then, option_map_or}
use Rattle.c_ints.specs.declared.kind.Kind.{Kind}
use Rattle.run_types.specs.CheckIns.{CheckInKind}
use Rattle.run_types.specs.Skeleton.{check_in_after}
use Rattle.c_format.specs.declared.reading.Reading.TheVariants.{Text}
use Rattle.c_format.specs.Formats.{kinds}
use Rattle.c_tree.specs.BareExpr.{Bytes, BareType, Integer as IntegerType, Handle as HandleType, Thread as ThreadType}
use Rattle.c_tree.specs.BareDef.{BareBinding, BareDef, Struct, Mutex, Function, Global, Array}
use Rattle.c_semantics.specs.Names.{struct_name}
use Rattle.c_semantics.specs.Texts.{Definitions, bound, bound_type, global_type, int, members_of, parameters_of, result_type}
use Rattle.c_semantics.specs.Stops.{Stop, kind_of}
use Rattle.c_semantics.specs.Stops as stop
use Rattle.typed_trees.specs.ExpressionTypes.{ArePrinted, FitFormat, IsArray, IsFunction, IsInteger, IsMutex, IsStruct, IsVariable, Runs, parameter_types}
use Rattle.bytecode.specs.Instructions.{Halt, CheckIn}
use Rattle.tree_code.specs.Code.{slot_in}
use Rattle.code_kinds.specs.declared.kind.WordKind.{WordKind}
use Rattle.code_kinds.specs.declared.kind.WordKind.TheVariants.{Integer, Handle, Thread}
use Rattle.code_kinds.specs.WordKinds.{word_kind, same_kind}
use Rattle.code_kinds.specs.StopKinds.{Words, after_stop, element_kind, field_kind, fields, integers, is_mutex, parameter_kinds, take_all, take_arguments, take_one, variable_kind}
use Rattle.code_kinds.specs.Shapes.{Due, Shape, after, keeps_kind, same_check_in, stored, transactions_after}
use Rattle.formed_code.specs.FormedLaws.{kinds_of}
use Rattle.formed_code.proofs.Lists.{never}

-- a shape without a check-in due
abbrev pub shape : ℕ → Words → Words → Shape
shape tr vs stack = record { stack = stack; variables = vs; transactions = tr; due = None }

-- ---- kinds

pub integer_of : (t : BareType) → IsInteger t → word_kind t ≡ Integer
integer_of (IntegerType k) h = refl
integer_of (HandleType tag) h = absurd h
integer_of ThreadType h = absurd h

same : (k : WordKind) → same_kind k k ≡ true
same Integer = refl
same Handle = refl
same Thread = refl

pub took : (k : WordKind) (under : Words) (go : Words → Option Words) → take_one k (k ∷ under) go ≡ go under
took k under go = ap (λ b. if b then go under else None) (same k)

pub took_all : (ks under : Words) (go : Words → Option Words) → take_all ks (ks ++ under) go ≡ go under
took_all [] under go = refl
took_all (k ∷ ks) under go = took k (ks ++ under) (λ u. take_all ks u go) ∙ took_all ks under go

-- words that are put on a stack one after another
abbrev pub pushed : Words → Words → Words
pushed [] stack = stack
pushed (k ∷ ks) stack = pushed ks (k ∷ stack)

pushed_is : (ks stack : Words) → pushed ks stack ≡ reverse ks ++ stack
pushed_is [] stack = refl
pushed_is (k ∷ ks) stack =
    pushed_is ks (k ∷ stack) ∙ sym (append_assoc (reverse ks) (k ∷ []) stack)
    ∙ ap (λ x. x ++ stack) (sym (reverse-append (k ∷ []) ks))

itself : (n : ℕ) → (n == n) ≡ true
itself n = eq-eqb n n refl

pub took_arguments : (n : ℕ) (ks under : Words) (go : Words → Option Words) → length ks ≡ n
    → take_arguments n ks (pushed ks under) go ≡ go under
took_arguments n ks under go e =
    ap (λ b. if b then take_all (reverse ks) (pushed ks under) go else None) (ap (λ m. length ks == m) (sym e) ∙ itself (length ks))
    ∙ ap (λ x. take_all (reverse ks) x go) (pushed_is ks under) ∙ took_all (reverse ks) under go

-- ---- variables

pub length_kinds : (bs : List BareBinding) → length (kinds_of bs) ≡ length bs
length_kinds [] = refl
length_kinds (b ∷ bs) = length-append (kinds_of bs) (word_kind b.declared ∷ []) ∙ more (length (kinds_of bs)) (length bs) (length_kinds bs)
  where
    more : (m n : ℕ) → m ≡ n → m + 1 ≡ suc n
    more m n e = omega (arith, e)

pub kinds_append : (bs cs : List BareBinding) → kinds_of (bs ++ cs) ≡ kinds_of cs ++ kinds_of bs
kinds_append [] cs = sym (append-nil (kinds_of cs))
kinds_append (b ∷ bs) cs =
    ap (λ x. x ++ word_kind b.declared ∷ []) (kinds_append bs cs)
    ∙ append_assoc (kinds_of cs) (kinds_of bs) (word_kind b.declared ∷ [])

got_front : (xs ys : Words) (n : ℕ) (k : WordKind) → slice_get xs n ≡ Some k → slice_get (xs ++ ys) n ≡ Some k
got_front [] ys n k e = absurd (none_is e)
  where
    none_is : None ≡ Some k → ⊥
    none_is f = cc
got_front (x ∷ xs) ys zero k e = e
got_front (x ∷ xs) ys (suc n) k e = got_front xs ys n k e

got_last : (xs : Words) (k : WordKind) → slice_get (xs ++ k ∷ []) (length xs) ≡ Some k
got_last [] k = refl
got_last (x ∷ xs) k = got_last xs k

pub variable_at : (bs : List BareBinding) (name : Bytes) → IsTrue (is_some (bound bs name))
    → slice_get (kinds_of bs) (slot_in bs name) ≡ Some (word_kind (bound_type bs name))
variable_at [] name h = absurd (never h)
variable_at (b ∷ bs) name h = by (bytes_eq name b.name) h (variable_at bs name)
  where
    by : (x : Bool) → IsTrue (is_some (cond x (Some b) (find (λ c. bytes_eq name c.name) bs)))
        → (IsTrue (is_some (bound bs name)) → slice_get (kinds_of bs) (slot_in bs name) ≡ Some (word_kind (bound_type bs name)))
        → slice_get (kinds_of bs ++ word_kind b.declared ∷ []) (if x then length bs else slot_in bs name)
        ≡ Some (word_kind (option_map_or (λ c. c.declared) (cond x (Some b) (find (λ c. bytes_eq name c.name) bs)) (int)))
    by true e more =
        ap (λ n. slice_get (kinds_of bs ++ word_kind b.declared ∷ []) n) (sym (length_kinds bs)) ∙ got_last (kinds_of bs) (word_kind b.declared)
    by false e more = got_front (kinds_of bs) (word_kind b.declared ∷ []) (slot_in bs name) (word_kind (bound_type bs name)) (more e)

kept : (vs : Words) (n : ℕ) (k : WordKind) → slice_get vs n ≡ Some k → keeps_kind n k vs ≡ true
kept [] n k e = absurd (none_is e)
  where
    none_is : None ≡ Some k → ⊥
    none_is f = cc
kept (j ∷ js) zero k e = ap (λ o. by o) e ∙ same k
  where
    by : Option WordKind → Bool
    by None = false
    by (Some x) = same_kind k x
kept (j ∷ js) (suc n) k e = kept js n k e

-- a word of its kind is stored in a variable
pub stored_in : (room n : ℕ) (k : WordKind) (vs : Words) → slice_get vs n ≡ Some k → stored room n k vs ≡ Some vs
stored_in room n k vs e =
    ap (λ b. if b then Some vs else (if nat_le n (length vs) && nat_lt n room then Some (take n vs ++ k ∷ []) else None)) (kept vs n k e)

past_end : (vs : Words) (k : WordKind) → keeps_kind (length vs) k vs ≡ false
past_end [] k = refl
past_end (j ∷ js) k = past_end js k

all_taken : (vs : Words) → take (length vs) vs ≡ vs
all_taken [] = refl
all_taken (j ∷ js) = ap (λ x. j ∷ x) (all_taken js)

-- the next variable is declared
pub stored_next : (room : ℕ) (k : WordKind) (vs : Words) → length vs < room → stored room (length vs) k vs ≡ Some (vs ++ k ∷ [])
stored_next room k vs h =
    ap (λ b. if b then Some vs else (if nat_le (length vs) (length vs) && nat_lt (length vs) room then Some (take (length vs) vs ++ k ∷ []) else None)) (past_end vs k)
    ∙ ap (λ b. if b && nat_lt (length vs) room then Some (take (length vs) vs ++ k ∷ []) else None) (within (length vs))
    ∙ ap (λ b. if b then Some (take (length vs) vs ++ k ∷ []) else None) (below (length vs) room h)
    ∙ ap (λ x. Some (x ++ k ∷ [])) (all_taken vs)
  where
    within : (n : ℕ) → nat_le n n ≡ true
    within n = grind arith

    below : (m n : ℕ) → m < n → nat_lt m n ≡ true
    below m n l = grind arith

-- ---- what names are

pub variable_of : (d : Option BareDef) → IsVariable d → variable_kind d ≡ Some (word_kind (global_type d))
variable_of (Some (Global d)) h = refl
variable_of d h = absurd h

pub element_of : (d : Option BareDef) → IsArray d → element_kind d ≡ Some (word_kind (global_type d))
element_of (Some (Array element name length initial)) h = refl
element_of d h = absurd h

pub mutex_of : (d : Option BareDef) → IsMutex d → is_mutex d ≡ true
mutex_of (Some (Mutex name)) h = refl
mutex_of d h = absurd h

pub members_are : (d : Option BareDef) → IsStruct d → fields d ≡ Some (members_of d)
members_are (Some (Struct tag members)) h = refl
members_are d h = absurd h

pub parameters_are : (d : Option BareDef) → IsFunction d → parameter_kinds d ≡ Some (map (λ p. word_kind p.declared) (parameters_of d))
parameters_are (Some (Function result name parameters body)) h = refl
parameters_are d h = absurd h

fields_of : (d : Option BareDef) (name : Bytes) → IsTrue (is_some (bound (members_of d) name)) → fields d ≡ Some (members_of d)
fields_of (Some (Struct tag members)) name h = refl
fields_of d name h = absurd (never h)

bound_kind : (o : Option BareBinding) → IsTrue (is_some o)
    → option_map (λ b. word_kind b.declared) o ≡ Some (word_kind (option_map_or (λ b. b.declared) o (int)))
bound_kind (Some b) h = refl
bound_kind None h = absurd (never h)

pub field_of : (look : Definitions) (tag name : Bytes) → IsTrue (is_some (bound (members_of (look (struct_name tag))) name))
    → field_kind look tag name ≡ Some (word_kind (bound_type (members_of (look (struct_name tag))) name))
field_of look tag name h =
    ap (option_and_then (λ members. option_map (λ b. word_kind b.declared) (bound members name))) (fields_of (look (struct_name tag)) name h)
    ∙ bound_kind (bound (members_of (look (struct_name tag))) name) h

-- ---- stops

-- the check-in that comes next after a stop, if one does
abbrev pub due_after : Stop → ℕ → Option Due
due_after s n = option_map (λ kind. record { kind = kind; number = suc n }) (check_in_after (kind_of s))

module _ (look : Definitions) (result : WordKind) where
  pub read_global : (name : Bytes) (stack : Words) → IsVariable (look name)
      → after_stop look result (stop.ReadGlobal name) stack ≡ Some (word_kind (global_type (look name)) ∷ stack)
  read_global name stack h = ap (option_map (λ k. k ∷ stack)) (variable_of (look name) h)

  pub write_global : (name : Bytes) (stack : Words) → IsVariable (look name)
      → let k = word_kind (global_type (look name)) in after_stop look result (stop.WriteGlobal name) (k ∷ stack) ≡ Some (k ∷ stack)
  write_global name stack h =
      let k = word_kind (global_type (look name)) in
      ap (option_and_then (λ j. take_one j (k ∷ stack) (λ under. Some (j ∷ under)))) (variable_of (look name) h)
      ∙ took k stack (λ under. Some (k ∷ under))

  pub read_element : (name : Bytes) (stack : Words) → IsArray (look name)
      → after_stop look result (stop.ReadElement name) (Integer ∷ stack) ≡ Some (word_kind (global_type (look name)) ∷ stack)
  read_element name stack h =
      ap (option_and_then (λ j. take_one Integer (Integer ∷ stack) (λ under. Some (j ∷ under)))) (element_of (look name) h)

  pub write_element : (name : Bytes) (stack : Words) → IsArray (look name)
      → let k = word_kind (global_type (look name)) in
      after_stop look result (stop.WriteElement name) (k ∷ Integer ∷ stack) ≡ Some (k ∷ stack)
  write_element name stack h =
      let k = word_kind (global_type (look name)) in
      ap (option_and_then (λ j. take_one j (k ∷ Integer ∷ stack) (λ below. take_one Integer below (λ under. Some (j ∷ under)))))
      (element_of (look name) h)
      ∙ took k (Integer ∷ stack) (λ below. take_one Integer below (λ under. Some (k ∷ under)))

  pub read_field : (tag name : Bytes) (stack : Words) → IsTrue (is_some (bound (members_of (look (struct_name tag))) name))
      → after_stop look result (stop.ReadField tag name) (Handle ∷ stack)
      ≡ Some (word_kind (bound_type (members_of (look (struct_name tag))) name) ∷ stack)
  read_field tag name stack h =
      ap (option_and_then (λ j. take_one Handle (Handle ∷ stack) (λ under. Some (j ∷ under)))) (field_of look tag name h)

  pub write_field : (tag name : Bytes) (stack : Words) → IsTrue (is_some (bound (members_of (look (struct_name tag))) name))
      → let k = word_kind (bound_type (members_of (look (struct_name tag))) name) in
      after_stop look result (stop.WriteField tag name) (k ∷ Handle ∷ stack) ≡ Some (k ∷ stack)
  write_field tag name stack h =
      let k = word_kind (bound_type (members_of (look (struct_name tag))) name) in
      ap (option_and_then (λ j. take_one j (k ∷ Handle ∷ stack) (λ below. take_one Handle below (λ under. Some (j ∷ under)))))
      (field_of look tag name h)
      ∙ took k (Handle ∷ stack) (λ below. take_one Handle below (λ under. Some (k ∷ under)))

  pub new_object : (tag : Bytes) (stack : Words) → IsStruct (look (struct_name tag))
      → after_stop look result (stop.New tag) stack ≡ Some (Handle ∷ stack)
  new_object tag stack h = ap (option_map (λ members. Handle ∷ stack)) (members_are (look (struct_name tag)) h)

  pub at_mutex : (name : Bytes) (stack : Words) → IsMutex (look name)
      → (if is_mutex (look name) then Some (Integer ∷ stack) else None) ≡ Some (Integer ∷ stack)
  at_mutex name stack h = ap (λ b. if b then Some (Integer ∷ stack) else None) (mutex_of (look name) h)

  types_as_kinds : (ps : List BareBinding) → map (λ p. word_kind p.declared) ps ≡ map word_kind (map (λ p. p.declared) ps)
  types_as_kinds [] = refl
  types_as_kinds (p ∷ ps) = ap (λ x. word_kind p.declared ∷ x) (types_as_kinds ps)

  expected : (d : Option BareDef) (ts : List BareType) → IsFunction d → ts ≡ parameter_types d → parameter_kinds d ≡ Some (map word_kind ts)
  expected d ts h e = parameters_are d h ∙ ap Some (types_as_kinds (parameters_of d) ∙ ap (map word_kind) (sym e))

  length_map : (ts : List BareType) → length (map word_kind ts) ≡ length ts
  length_map [] = refl
  length_map (t ∷ ts) = ap suc (length_map ts)

  pub call : (name : Bytes) (n : ℕ) (ts : List BareType) (stack : Words) → IsFunction (look name) → ts ≡ parameter_types (look name)
      → length ts ≡ n
      → after_stop look result (stop.Call name n) (pushed (map word_kind ts) stack) ≡ Some (word_kind (result_type (look name)) ∷ stack)
  call name n ts stack h e f =
      let go = λ (under : Words). Some (word_kind (result_type (look name)) ∷ under) in
      ap (option_and_then (λ ks. take_arguments n ks (pushed (map word_kind ts) stack) go)) (expected (look name) ts h e)
      ∙ took_arguments n (map word_kind ts) stack go (length_map ts ∙ f)

  pub spawn : (name : Bytes) (t : BareType) (stack : Words) → Runs (look name) t
      → after_stop look result (stop.Spawn name) (word_kind t ∷ stack) ≡ Some (Thread ∷ stack)
  spawn name t stack h =
      let go = λ (under : Words). Some (Thread ∷ under) in
      ap (option_and_then (λ ks. take_arguments 1 ks (word_kind t ∷ stack) go)) (expected (look name) (t ∷ []) h.0 (sym h.1))
      ∙ took_arguments 1 (word_kind t ∷ []) stack go refl

  printed_kinds : (ks : List Kind) (ts : List BareType) → ArePrinted ks ts → integers ks ≡ map word_kind ts
  printed_kinds [] [] h = refl
  printed_kinds (k ∷ ks) (IntegerType j ∷ ts) h = ap (λ x. Integer ∷ x) (printed_kinds ks ts h.1)
  printed_kinds [] (t ∷ ts) h = absurd h
  printed_kinds (k ∷ ks) [] h = absurd h
  printed_kinds (k ∷ ks) (HandleType tag ∷ ts) h = absurd h
  printed_kinds (k ∷ ks) (ThreadType ∷ ts) h = absurd h

  printed : (o : Option (List Kind)) (n : ℕ) (ts : List BareType) (stack : Words) → FitFormat o ts → length ts ≡ n
      → option_and_then (λ ks. take_arguments n (integers ks) (pushed (map word_kind ts) stack) (λ under. Some (Integer ∷ under))) o
      ≡ Some (Integer ∷ stack)
  printed None n ts stack h e = absurd h
  printed (Some ks) n ts stack h e =
      let go = λ (under : Words). Some (Integer ∷ under) in
      ap (λ x. take_arguments n x (pushed (map word_kind ts) stack) go) (printed_kinds ks ts h)
      ∙ took_arguments n (map word_kind ts) stack go (length_map ts ∙ e)

  pub print : (format : Bytes) (n : ℕ) (ts : List BareType) (stack : Words) → FitFormat (kinds Text format) ts → length ts ≡ n
      → after_stop look result (stop.Print format n) (pushed (map word_kind ts) stack) ≡ Some (Integer ∷ stack)
  print format n ts stack h e = printed (kinds Text format) n ts stack h e

  -- ---- points

  fill : Words → Option Words → Option ℕ → Option Due → Option Shape
  fill vs stack transactions due =
      option_and_then (λ s. option_map (λ t. record { stack = s; variables = vs; transactions = t; due = due }) transactions) stack

  pub halted : (room tr : ℕ) (vs : Words) (s : Stop) (n : ℕ) (stack left : Words) (opened : ℕ) (due : Option Due)
      → after_stop look result s stack ≡ Some left → transactions_after s tr ≡ Some opened
      → due_after s n ≡ due
      → after look result room (Halt s n) (shape tr vs stack) ≡ Some (record { stack = left; variables = vs; transactions = opened; due = due })
  unfolding fill
  halted room tr vs s n stack left opened due e f g =
      ap (λ x. fill vs x (transactions_after s tr) (due_after s n)) e
      ∙ ap (λ x. fill vs (Some left) x (due_after s n)) f
      ∙ ap (λ x. fill vs (Some left) (Some opened) x) g

  pub checked : (room tr : ℕ) (vs stack : Words) (kind : CheckInKind) (n : ℕ) → same_check_in kind kind ≡ true
      → after look result room (CheckIn kind n) (record { stack = stack; variables = vs; transactions = tr; due = Some (record { kind = kind; number = n }) })
      ≡ Some (shape tr vs stack)
  checked room tr vs stack kind n e =
      ap (λ b. if b && (n == n) then Some (shape tr vs stack) else None) e ∙ ap (λ b. if b then Some (shape tr vs stack) else None) (itself n)
