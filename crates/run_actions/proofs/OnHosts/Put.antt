-- What a conversion writes straight behind what is written.
use Rattle.std.proofs.Common.{◌≡◌, ℕ, List, ◌++◌, Result, Ok, Err, Option, None, Some, Bool, true, refl, sym, ap, ap₂, ◌∙◌, subst}
use Rattle.std.specs.Prelude.{IfErr, OnErr, OnOk, OnSome, if◌then◌else◌}
use Rattle.ir_eval.specs.declared.value.Pointer.{Pointer}
use Rattle.ir_eval.specs.declared.value.Scalar.TheVariants as scalar
use Rattle.ir_memory.specs.Memory.{Blocks}
use Rattle.ir_memory.specs.declared.fault.MemoryFault.{MemoryFault}
use Rattle.ir_memory.specs.declared.fault.MemoryFault.TheVariants as faults
use Rattle.ir_memory.specs.declared.leaf.Leaf.{Leaf}
use Rattle.ir_printf.specs.Printed.{precise_bytes, printed_bytes}
use Rattle.ir_printf.specs.declared.conversion.Conversion.{Conversion}
use Rattle.ir_printf.specs.declared.conversion.ConversionKind.{ConversionKind}
use Rattle.ir_printf.specs.declared.conversion.ConversionKind.TheVariants as kind
use Rattle.ir_printf.specs.declared.conversion.Length.{Length}
use Rattle.ir_printf.specs.declared.conversion.Length.TheVariants as size
use Rattle.ir_printf.proofs.Short.{narrow_is}
use Rattle.ir_tables.specs.declared.undefined_kind.UndefinedKind.{UndefinedKind}
use Rattle.ir_tables.specs.declared.undefined_kind.UndefinedKind.TheVariants.{BadFormat}
use Rattle.linkage_rules.specs.SameShape.{same_shape}
use Rattle.run_rules.specs.Access.{and_then}
use Rattle.run_rules.specs.Printing.{converted, shape_for, string_for}
use Rattle.run_names.specs.Values.Answer.{IsRefusal, Loads}
use Rattle.run_actions.specs.Hosts.Printing.{leaf_for, number_bytes, shape_from}

abbrev pub Done : Type 0
Done = Result (Unit {0}) MemoryFault

-- what is expected was added
abbrev pub IsPut : Result (List ℕ) UndefinedKind → List ℕ → List ℕ → Type 0
IsPut expected old new = (bytes : List ℕ) × (expected ≡ Ok bytes) × (new ≡ old ++ bytes)

-- ---- numbers

pub number_put : (m : Blocks) (c : Conversion) (number : ℕ) (old new : List ℕ) (r : Done) → OnOk r (new ≡ old ++ number_bytes c number) → OnOk r (IsPut (converted m c (scalar.Int number)) old new)
number_put m c number old new (Ok x) h = (number_bytes c number, refl, h)
number_put m c number old new (Err fault) h = tt

pub number_refused : (expected : Result (List ℕ) UndefinedKind) (r : Done) → IfErr r (λ fault. fault ≡ faults.Memory) → IfErr r (IsRefusal expected)
number_refused expected (Ok x) h = tt
number_refused expected (Err fault) h = subst (IsRefusal expected) (sym h) tt

-- ---- strings

-- a fact that holds anyway holds of what was found
pub on_some : {T : Type 0} (o : Option T) (P : Type 0) → P → OnSome o P
on_some None P h = tt
on_some (Some x) P h = h

-- where no precision ends a string, a conversion without a width writes the string itself
pub whole_is : (c : Conversion) (bytes : List ℕ) → c.kind ≡ kind.Bytes → c.precision ≡ None → c.width ≡ 0 → bytes ≡ printed_bytes c bytes
whole_is c bytes string plain narrow =
    sym (ap₂ (λ k p. precise_bytes k p bytes) string plain) ∙ narrow_is c bytes narrow

-- what a conversion writes of a string that is told
pub string_put : (m : Blocks) (c : Conversion) (p : Pointer) (bytes : List ℕ) → string_for m c.precision p ≡ Ok bytes → converted m c (scalar.Ptr p) ≡ Ok (printed_bytes c bytes)
string_put m c p bytes e = ap (λ r. and_then r (λ (xs : List ℕ). Ok (printed_bytes c xs))) e

-- or of one that is refused
pub string_refused : (m : Blocks) (c : Conversion) (p : Pointer) (fault : MemoryFault) → IsRefusal (string_for m c.precision p) fault → IsRefusal (converted m c (scalar.Ptr p)) fault
string_refused m c p (faults.Undefined which) e = ap (λ r. and_then r (λ (xs : List ℕ). Ok (printed_bytes c xs))) e
string_refused m c p faults.Memory e = tt
string_refused m c p faults.MemoryLimit e = e

-- ---- arguments

leaf_shape : (k : ConversionKind) (l : Length) → shape_from (Some (leaf_for k l)) ≡ shape_for k l
leaf_shape kind.Bytes l = refl
leaf_shape kind.Char l = refl
leaf_shape _ size.Long = refl
leaf_shape _ l = refl

told : (expected : Result (List ℕ) UndefinedKind) (old new : List ℕ) (r : Done) → OnOk r (IsPut expected old new) → OnErr r (new ≡ old) → IfErr r (IsRefusal expected) → Loads {A = ℕ} {T = Unit {0}} expected old new r
told expected old new (Ok x) ok err why = ok
told expected old new (Err (faults.Undefined which)) ok err why = (why, err)
told expected old new (Err faults.Memory) ok err why = err
told expected old new (Err faults.MemoryLimit) ok err why = why

-- an argument of the conversion's type
pub argument_put : (c : Conversion) (k : Option Leaf) (leaf : Leaf) (t : Bool) (expected : Result (List ℕ) UndefinedKind) (old new : List ℕ) (r : Done) → leaf ≡ leaf_for c.kind c.length
    → t ≡ same_shape (shape_from k) (shape_from (Some leaf)) → t ≡ true → OnOk r (IsPut expected old new) → OnErr r (new ≡ old) → IfErr r (IsRefusal expected)
    → Loads {A = ℕ} {T = Unit {0}} (if same_shape (shape_from k) (shape_for c.kind c.length) then expected else Err BadFormat) old new r
argument_put c k leaf t expected old new r is judged fits ok err why =
    let same : true ≡ same_shape (shape_from k) (shape_for c.kind c.length) =
    sym fits ∙ judged ∙ ap (λ l. same_shape (shape_from k) (shape_from (Some l))) is ∙ ap (same_shape (shape_from k)) (leaf_shape c.kind c.length) in
    subst (λ b. Loads {A = ℕ} {T = Unit {0}} (if b then expected else Err BadFormat) old new r) same (told expected old new r ok err why)
