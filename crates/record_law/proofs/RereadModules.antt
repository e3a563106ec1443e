-- What is read of a module in a table does not depend on where texts are written.
use Rattle.std.proofs.Common.{◌≡◌, ℕ, suc, Bool, true, false, List, [], ◌∷◌, ◌++◌, length, Option, Some, None, Ok, Err, refl, sym, ap, ◌∙◌, subst}
use Rattle.std.specs.Prelude.{map, nat_eq, nat_lt, is_some, ◌&&◌, if◌then◌else◌, ⊤}
use Rattle.module_arena.specs.Module.{Bytes, Variable, Function, Alias, Module}
use Rattle.type_table.specs.Types.{trees, structs, with_type, with_body}
use Rattle.type_table.specs.declared.ir_type.IrType.{IrType}
use Rattle.type_table.specs.declared.ir_type.StructBody.{StructBody}
use Rattle.record_table.specs.Layout.{judged}
use Rattle.record_table.specs.Fields.{Texts, Numbering, name}
use Rattle.record_table.specs.Faults.{BadRecord, UnknownRecord, Answer, ◌>>=◌, Records, no_more, a_block, a_record, types_id, module_id, body_id, is_block_id, misplaced, unless_broken}
use Rattle.record_table.specs.TypeRecords.{TypeKind, kinds, kind_of_code, definition, names_in, called, Listed, at_first as none_listed, type_record, struct_record, ir_type, listed_by, listed_from, listed}
use Rattle.record_table.specs.Bodies.{Begun, body}
use Rattle.record_table.specs.Records.{Sofar, record_at_place, variable, function, alias, version_record, variable_record, function_record, alias_record, first_due, body_block, types_block, block_in, record_in, ended, module_from, may_follow, give_body, names_of, known_at_first, module_of}
use Rattle.record_law.specs.FittingModules.{IsRead}
use Rattle.record_law.proofs.RereadBodies.{written, reading, body_read}

-- one behind the other, whichever two are taken first
pub grouped : {A B C : Type 0} (answer : Answer A) (one : A → Answer B) (other : B → Answer C) → ((answer >>= one) >>= other) ≡ (answer >>= λ x. one x >>= other)
grouped (Ok x) one other = refl
grouped (Err fault) one other = refl

unless_alike : {A B : Type 0} (id at : ℕ) (broken : Option ℕ) (x : A) (f : A → B) → unless_broken id at broken (f x) ≡ (unless_broken id at broken x >>= λ y. Ok (f y))
unless_alike id at None x f = refl
unless_alike id at (Some rule) x f = refl

if_alike : {A B : Type 0} (f : A → Answer B) (test : Bool) (one other : Answer B) (first second : Answer A) → one ≡ (first >>= f) → other ≡ (second >>= f)
    → (if test then one else other) ≡ ((if test then first else second) >>= f)
if_alike f true one other first second left right = left
if_alike f false one other first second left right = right

misplaced_alike : {A B : Type 0} (f : A → Answer B) (id at : ℕ) → misplaced id at ≡ (misplaced id at >>= f)
misplaced_alike f id at = if_alike f (is_block_id id) (Err (BadRecord id at 5)) (Err (UnknownRecord id 0)) (Err (BadRecord id at 5)) (Err (UnknownRecord id 0)) refl refl

-- a step and what goes on behind it, where a state is changed in what nothing depends on
steps_alike : {S : Type 0} (to fro : S → S) (one other : Answer S) (go : S → Answer S)
    → one ≡ (other >>= λ l. Ok (to l)) → other ≡ (other >>= λ l. Ok (fro l)) → ((l : S) → go (to l) ≡ (go (fro l) >>= λ u. Ok (to u)))
    → (one >>= go) ≡ ((other >>= go) >>= λ u. Ok (to u))
steps_alike {S} to fro one (Ok x) go first kept later =
    ap (λ (answer : Answer S). answer >>= go) first ∙ later x ∙ ap (λ (answer : Answer S). (answer >>= go) >>= λ u. Ok (to u)) (sym kept)
steps_alike {S} to fro one (Err fault) go first kept later = ap (λ (answer : Answer S). answer >>= go) first

module _ (table : Bytes) where
  -- the same state where texts stand so
  abbrev pub listed_with : (Bytes → ℕ) → Listed → Listed
  listed_with offset_of s = record s { texts = written table offset_of }

  abbrev pub with_texts : (Bytes → ℕ) → Sofar → Sofar
  with_texts offset_of s = record s { texts = written table offset_of }

  -- where nothing is written
  abbrev pub nowhere : Bytes → ℕ
  nowhere text = 0

  module _ (offset_of : Bytes → ℕ) where
    abbrev texts : Texts
    texts = written table offset_of

    abbrev to_listed : Listed → Answer Listed
    to_listed l = Ok (listed_with offset_of l)

    abbrev to : Sofar → Answer Sofar
    to u = Ok (with_texts offset_of u)

    -- ---- types
    structs_named : (inside : Records) → names_in texts inside ≡ names_in (reading table offset_of) inside
    structs_named no_more = refl
    structs_named (a_block id inside behind) = structs_named behind
    structs_named (a_record code operands behind) =
        ap (λ names. if nat_eq code 7 then (judged (definition texts 0) operands).0.1 ∷ names else names) (structs_named behind)

    type_alike : (s : Listed) (x : IrType × Option ℕ) → type_record (listed_with offset_of s) x ≡ (type_record (listed_with nowhere s) x >>= to_listed)
    type_alike s x = unless_alike types_id s.at _ (record (listed_with nowhere s) { at = suc s.at; types = with_type s.types x.0 }) (listed_with offset_of)

    struct_alike : (s : Listed) (x : (StructBody × Bytes) × Option ℕ) → struct_record (listed_with offset_of s) x ≡ (struct_record (listed_with nowhere s) x >>= to_listed)
    struct_alike s x =
        unless_alike types_id s.at _ (record (listed_with nowhere s) { at = suc s.at; types = with_body s.types (length s.names) x.0.0; names = s.names ++ x.0.1 ∷ [] }) (listed_with offset_of)

    kind_alike : (s : Listed) (code : ℕ) (operands : List ℕ) (kind : Option TypeKind) → listed_by (listed_with offset_of s) code operands kind ≡ (listed_by (listed_with nowhere s) code operands kind >>= to_listed)
    kind_alike s code operands (Some kind) = type_alike s (judged (ir_type (length s.types.types) (length s.types.structs) kind) operands)
    kind_alike s code operands None =
        if_alike to_listed (nat_eq code 7) _ _ _ _ (struct_alike s (judged (definition texts (length s.types.types)) operands)) refl

    -- ---- the module
    placed_alike : (s : Sofar) (place : ℕ) (broken : Option ℕ) (after : Sofar) → record_at_place (with_texts offset_of s) place broken (with_texts offset_of after) ≡ (record_at_place (with_texts nowhere s) place broken (with_texts nowhere after) >>= to)
    placed_alike s place broken after = unless_alike module_id s.at _ (record (with_texts nowhere after) { at = suc s.at; last = place }) (with_texts offset_of)

    version_alike : (s : Sofar) (operands : List ℕ) → version_record (with_texts offset_of s) operands ≡ (version_record (with_texts nowhere s) operands >>= to)
    version_alike s [] = placed_alike s 1 _ s
    version_alike s (n ∷ []) = if_alike to _ _ _ _ _ refl (placed_alike s 1 _ s)
    version_alike s (n ∷ m ∷ operands) = placed_alike s 1 _ s

    variable_alike : (s : Sofar) (x : Variable × Option ℕ) → variable_record (with_texts offset_of s) x ≡ (variable_record (with_texts nowhere s) x >>= to)
    variable_alike s x = placed_alike s 6 _ (record s { variables = s.variables ++ x.0 ∷ [] })

    function_alike : (s : Sofar) (x : (Bool × Function) × Option ℕ) → function_record (with_texts offset_of s) x ≡ (function_record (with_texts nowhere s) x >>= to)
    function_alike s x = placed_alike s 7 _ (record s { functions = s.functions ++ x.0 ∷ [] })

    alias_alike : (s : Sofar) (x : Alias × Option ℕ) → alias_record (with_texts offset_of s) x ≡ (alias_record (with_texts nowhere s) x >>= to)
    alias_alike s x = placed_alike s 8 _ (record s { aliases = s.aliases ++ x.0 ∷ [] })

    record_alike : (s : Sofar) (code : ℕ) (operands : List ℕ) → record_in (with_texts offset_of s) code operands ≡ (record_in (with_texts nowhere s) code operands >>= to)
    record_alike s code operands =
        if_alike to (nat_eq code 1) _ _ _ _ (version_alike s operands)
        (if_alike to (nat_eq code 2) _ _ _ _ (placed_alike s 2 _ (record s { source = Some (judged texts.last operands).0 }))
        (if_alike to (nat_eq code 3) _ _ _ _ (placed_alike s 3 _ (record s { layout = Some (judged texts.last operands).0 }))
        (if_alike to (nat_eq code 4) _ _ _ _ (placed_alike s 4 _ (record s { triple = Some (judged texts.last operands).0 }))
        (if_alike to (nat_eq code 5) _ _ _ _ (variable_alike s (judged (variable texts s.k) operands))
        (if_alike to (nat_eq code 6) _ _ _ _ (function_alike s (judged (function texts s.k) operands))
        (if_alike to (nat_eq code 7) _ _ _ _ (alias_alike s (judged (alias texts s.k) operands)) refl))))))

    ended_alike : (s : Sofar) → ended (with_texts offset_of s) ≡ (ended (with_texts nowhere s) >>= to)
    ended_alike s =
        let missing_body : Answer Sofar = if is_some (first_due s.functions) then Err (BadRecord body_id s.at 5) else Ok (with_texts nowhere s) in
        let missing_types : Answer Sofar = if nat_lt s.last 5 then Err (BadRecord types_id s.at 5) else missing_body in
        if_alike to (nat_eq s.last 0) _ _ (Err (BadRecord module_id s.at 5)) missing_types refl
        (if_alike to (nat_lt s.last 5) _ _ (Err (BadRecord types_id s.at 5)) missing_body refl
        (if_alike to (is_some (first_due s.functions)) _ _ (Err (BadRecord body_id s.at 5)) (Ok (with_texts nowhere s)) refl refl))

    body_alike : (s : Sofar) (inside : Records) (f : Option Function) → body_block (with_texts offset_of s) inside f ≡ (body_block (with_texts nowhere s) inside f >>= to)
    body_alike s inside None = misplaced_alike to body_id s.at
    body_alike s inside (Some f) =
        let given = λ (offset : Bytes → ℕ) (b : Begun). Ok (record (with_texts offset s) { at = b.at; last = 9; functions = give_body b s.functions }) in
        ap (λ (answer : Answer Begun). answer >>= given offset_of) (body_read table offset_of s.k (length f.parameters) s.at inside)
        ∙ sym (grouped (body (reading table offset_of) s.k (length f.parameters) s.at inside) (given nowhere) to)

    names_same : (code : ℕ) (inside : Records) → names_of texts code inside ≡ names_of (reading table offset_of) code inside
    names_same code no_more = refl
    names_same code (a_block id inside behind) = names_same code behind
    names_same code (a_record other operands behind) = ap (λ names. if nat_eq other code then (judged (name texts) operands).0 ∷ names else names) (names_same code behind)

  module _ (offset_of : Bytes → ℕ) where
    types_from : (s : Listed) (inside : Records) → listed_from (listed_with offset_of s) inside ≡ (listed_from (listed_with nowhere s) inside >>= to_listed offset_of)
    types_from s no_more = refl
    types_from s (a_block id inside behind) = misplaced_alike (to_listed offset_of) id s.at
    types_from s (a_record code operands behind) =
        steps_alike (listed_with offset_of) (listed_with nowhere) _ _ (λ t. listed_from t behind)
        (kind_alike offset_of s code operands (kind_of_code code kinds)) (kind_alike nowhere s code operands (kind_of_code code kinds)) (λ l. types_from l behind)

    types_read : (at : ℕ) (inside : Records) → listed (written table offset_of) at inside ≡ (listed (reading table offset_of) at inside >>= to_listed offset_of)
    types_read at inside =
        ap (λ names. listed_from (record { texts = written table offset_of; at = at; types = record { types = []; structs = map (λ name. (name, None)) (called names) }; names = [] }) inside) (structs_named offset_of inside)
        ∙ types_from (none_listed (reading table offset_of) at inside) inside

    types_block_alike : (s : Sofar) (inside : Records) → types_block (with_texts offset_of s) inside ≡ (types_block (with_texts nowhere s) inside >>= to offset_of)
    types_block_alike s inside =
        let given = λ (offset : Bytes → ℕ) (all : Listed). Ok (record (with_texts offset s) { at = all.at; last = 5; k = record s.k { types = trees all.types; structs = structs all.types } }) in
        ap (λ (answer : Answer Listed). answer >>= given offset_of) (types_read s.at inside)
        ∙ grouped (listed (reading table offset_of) s.at inside) (to_listed offset_of) (given offset_of)
        ∙ sym (grouped (listed (reading table offset_of) s.at inside) (given nowhere) (to offset_of))

    block_alike : (s : Sofar) (id : ℕ) (inside : Records) → block_in (with_texts offset_of s) id inside ≡ (block_in (with_texts nowhere s) id inside >>= to offset_of)
    block_alike s id inside =
        if_alike (to offset_of) (nat_eq id types_id && may_follow s.last 5) _ _ _ _ (types_block_alike s inside)
        (if_alike (to offset_of) (nat_eq id body_id && may_follow s.last 9) _ _ _ _ (body_alike offset_of s inside (first_due s.functions)) (misplaced_alike (to offset_of) id s.at))

  module _ (offset_of : Bytes → ℕ) where
    -- what stands in the block of the module
    pub module_alike : (s : Sofar) (inside : Records) → module_from (with_texts offset_of s) inside ≡ (module_from (with_texts nowhere s) inside >>= to offset_of)
    module_alike s no_more = ended_alike offset_of s
    module_alike s (a_block id inside behind) =
        steps_alike (with_texts offset_of) (with_texts nowhere) _ _ (λ t. module_from t behind) (block_alike offset_of s id inside) (block_alike nowhere s id inside) (λ u. module_alike u behind)
    module_alike s (a_record code operands behind) =
        steps_alike (with_texts offset_of) (with_texts nowhere) _ _ (λ t. module_from t behind) (record_alike offset_of s code operands) (record_alike nowhere s code operands) (λ u. module_alike u behind)

    -- indices stand for these names, where no types are known
    abbrev known_by : List Bytes → List Bytes → List Bytes → Numbering
    known_by vs fs all = record { types = []; structs = []; targets = vs ++ fs; globals = vs ++ fs ++ all; values = []; blocks = [] }

    pub known_same : (inside : Records) → known_at_first (written table offset_of) inside ≡ known_at_first (reading table offset_of) inside
    known_same inside =
        ap (λ names. known_by names (names_of (written table offset_of) 6 inside) (names_of (written table offset_of) 7 inside)) (names_same offset_of 5 inside)
        ∙ ap (λ names. known_by (names_of (reading table offset_of) 5 inside) names (names_of (written table offset_of) 7 inside)) (names_same offset_of 6 inside)
        ∙ ap (known_by (names_of (reading table offset_of) 5 inside) (names_of (reading table offset_of) 6 inside)) (names_same offset_of 7 inside)

    unfoldable of_answer : Module → Answer Sofar → Module
    of_answer m (Ok s) = module_of s
    of_answer m (Err fault) = m

    unfoldable IsOk : Answer Sofar → Type 0
    IsOk (Ok s) = ⊤
    IsOk (Err fault) = ⊥

    -- where the module is read with the offsets that are written, it is read without them
    by_reading : (m : Module) (answer : Answer Sofar) → IsRead m (answer >>= to offset_of) → IsRead m answer
    unfolding of_answer IsOk
    by_reading m (Ok s) read = record { sofar = s; is = refl; same = ap (of_answer m) read.is ∙ read.same }
    by_reading m (Err fault) read = absurd (subst IsOk (sym read.is) tt)

    pub read_without : (m : Module) (s : Sofar) (inside : Records) → IsRead m (module_from (with_texts offset_of s) inside) → IsRead m (module_from (with_texts nowhere s) inside)
    read_without m s inside read = by_reading m (module_from (with_texts nowhere s) inside) (record { sofar = read.sofar; is = sym (module_alike s inside) ∙ read.is; same = read.same })
