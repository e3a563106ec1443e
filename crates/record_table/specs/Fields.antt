-- For `write` and `read` of bitcode: what a record may name, as layouts of types, names, indices and codes.
use Rattle.std.specs.Prelude.{ℕ, zero, suc, ◌==◌, nat_eq, nat_lt, not, Bool, true, false, List, [], ◌∷◌, length, map, Option, Some, None, bytes_eq, slice_index_or}
use Rattle.std.specs.List.{list_all}
use Rattle.ir_tables.specs.declared.opcode.Opcode.{Opcode}
use Rattle.ir_tables.specs.declared.predicate.Predicate.{Predicate}
use Rattle.ir_tables.specs.declared.predicate.Predicate.TheVariants.{Eq}
use Rattle.ir_tables.specs.declared.linkage.Linkage.{Linkage}
use Rattle.ir_tables.specs.declared.linkage.Linkage.TheVariants.{External}
use Rattle.ir_tables.specs.Predicate.{predicate_code, predicate_of_code}
use Rattle.ir_tables.specs.Linkage.{linkage_code, linkage_of_code}
use Rattle.type_table.specs.Tree.{Tree, void, Structs}
use Rattle.module_arena.specs.declared.arena.TheConstants.{INDEX_LIMIT}
use Rattle.module_arena.specs.Module.{Bytes, LocalName, Named, Numbered}
use Rattle.module_arena.specs.Same.{same_type, same_local}
use Rattle.module_arena.specs.Forms.{are_flags_of}
use Rattle.module_arena.specs.EntryRules.{alignments}
use Rattle.record_table.specs.Walk.{Walk, next}
use Rattle.record_table.specs.Layout.{Layout, number, mapped, asking, many, counted, to_end, indexed, coded, place}

-- a number below this one
abbrev pub below : ℕ → Layout ℕ
below limit = asking 3 (λ n. nat_lt n limit) number

-- a byte
abbrev pub byte : Layout ℕ
byte = below 256

-- 0, or one more than the length of a name and the name
unfoldable pub label_by : ℕ → Walk → Option Bytes × Walk
label_by zero w = (None, w)
label_by (suc size) w = let bytes = many byte.read size w in (Some bytes.0, bytes.1)

-- the same, spelled
abbrev pub label_spell : Option Bytes → List ℕ
label_spell None = 0 ∷ []
label_spell (Some bytes) = suc (length bytes) ∷ bytes

-- How texts stand in the records of a version: one that others follow, one that ends a record, and a name or none. And
-- whether a text is one that they can hold.
pub record Texts : Type 0 where
  pub version : ℕ
  pub middle : Layout Bytes
  pub last : Layout Bytes
  pub label : Layout (Option Bytes)
  pub holds : Bytes → Bool

-- in version 1, byte by byte
abbrev pub version_1 : Texts
version_1 = record {
  version = 1;
  middle = counted byte;
  last = to_end byte;
  label = record { spell = label_spell; read = λ w. let n = next w in label_by n.0 n.1 };
  holds = λ text. list_all (λ b. nat_lt b 256) text;
}

-- What indices stand for: the types of the module, its structs, what it may have aliases of, which is its variables and
-- then its functions, and these with its aliases behind them; and in a body its parameters and results, and its blocks.
pub record Numbering : Type 0 where
  pub types : List Tree
  pub structs : Structs
  pub targets : List Bytes
  pub globals : List Bytes
  pub values : List LocalName
  pub blocks : List LocalName

-- a type of the module
abbrev pub ty : Numbering → Layout Tree
ty k = indexed same_type k.types void

-- a variable, function or alias
abbrev pub global : Numbering → Layout Bytes
global k = indexed bytes_eq k.globals []

-- a variable or function
abbrev pub target : Numbering → Layout Bytes
target k = indexed bytes_eq k.targets []

-- a parameter or result, and a block
abbrev pub local : Numbering → Layout LocalName
local k = indexed same_local k.values (Numbered 0)

-- a block of the body
abbrev pub block : Numbering → Layout LocalName
block k = indexed same_local k.blocks (Numbered 0)

-- an index of 32 bits
abbrev pub index : Layout ℕ
index = below INDEX_LIMIT

-- the code of a truth
abbrev pub bool_code : Bool → ℕ
bool_code false = 0
bool_code true = 1

-- 0 or 1
abbrev pub truth : Layout Bool
truth = mapped (λ n. not (n == 0)) bool_code (below 2)

-- No zero byte, and not empty. That bytes are below 256 is another rule
abbrev pub is_name : Bytes → Bool
is_name [] = false
is_name (b ∷ bs) = list_all (λ c. not (c == 0)) (b ∷ bs)

-- bytes that are no name
abbrev pub text : Layout Bytes
text = counted byte

-- a name
abbrev pub name : Texts → Layout Bytes
name t = asking 4 is_name t.middle

-- none, or what a record may give as a name
abbrev pub is_label : Option Bytes → Bool
is_label None = true
is_label (Some bytes) = is_name bytes

-- what is called so, or has that number where it has no name
abbrev pub called : ℕ → Option Bytes → LocalName
called own None = Numbered own
called own (Some bytes) = Named bytes

-- the name, where it is one
abbrev pub name_in : LocalName → Option Bytes
name_in (Named bytes) = Some bytes
name_in (Numbered n) = None

-- the name of a local, or none: `own` is the number that it has if it has no name
abbrev pub label : Texts → ℕ → Layout LocalName
label t own = mapped (called own) name_in (asking 4 is_label t.label)

-- the number that the next without a name has
abbrev pub after : ℕ → LocalName → ℕ
after own (Named bytes) = own
after own (Numbered n) = suc own

-- the alignments that records have codes of: none, and then the powers of two
abbrev pub coded_alignments : List (Option ℕ)
coded_alignments = None ∷ map (λ n. Some n) alignments

-- one number, or none
abbrev pub same_option : Option ℕ → Option ℕ → Bool
same_option None None = true
same_option (Some m) (Some n) = nat_eq m n
same_option _ _ = false

-- an alignment by its code: 0 for none, else one more than its logarithm
abbrev pub alignment : Layout (Option ℕ)
alignment = mapped (λ n. slice_index_or coded_alignments n None) (place same_option coded_alignments) (asking 7 (λ n. nat_lt n (length coded_alignments)) number)

-- a linkage by its code
abbrev pub linkage : Layout Linkage
linkage = coded linkage_code linkage_of_code External

-- a predicate by its code
abbrev pub predicate : Layout Predicate
predicate = coded predicate_code predicate_of_code Eq

-- a set of flags that the opcode may have, as the sum of their codes
abbrev pub flags : Opcode → Layout ℕ
flags o = asking 3 (are_flags_of o) number
