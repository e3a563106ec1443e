-- Reading stays in the bits of a stream: behind what was read stands what is left of them from there on.
use Rattle.std.proofs.Common.{◌≡◌, ℕ, zero, suc, ◌+◌, ◌-◌, ◌*◌, Bool, true, false, List, [], ◌∷◌, ◌++◌, drop, length, Option, Some, None, Result, Ok, Err, IfOk, if◌then◌else◌, ap, ◌∙◌}
use Rattle.std.specs.Prelude.{◌==◌, ◌^◌, ◌&&◌, ◌||◌, nat_le, nat_lt}
use Rattle.std.proofs.lemmas.List.{drop-drop}
use Rattle.bit_stream.specs.Bits.Cursor.{Cursor, Found, ◌>>=◌}
use Rattle.bit_stream.specs.Bits.Reading.{Read, read_at, fixed_at, vbr_at, fixed, vbr, gap, align, bytes, bytes_of, blob}
use Rattle.bit_stream.specs.declared.bits.fault.BitFault.{BitFault}
use Rattle.bit_stream.specs.declared.bits.fault.BitFaultKind.TheVariants.{Truncated, NestedTooDeep}
use Rattle.bit_stream.specs.declared.entry.Entry.TheVariants.{Block, End}
use Rattle.bit_stream.specs.declared.abbreviation.ValueSpelling.{ValueSpelling}
use Rattle.bit_stream.specs.declared.abbreviation.ValueSpelling.TheVariants.{Known, Field, Chunks, Letter}
use Rattle.bit_stream.specs.declared.abbreviation.Tail.{Tail}
use Rattle.bit_stream.specs.declared.abbreviation.Tail.TheVariants.{NoTail, Elements, Bytes}
use Rattle.bit_stream.specs.declared.definition.Encoding.{Encoding}
use Rattle.bit_stream.specs.declared.definition.Encoding.TheVariants.{AsField, AsChunks, AsArray, AsLetter, AsBlob}
use Rattle.bit_stream.specs.declared.definition.DefinitionPart.{DefinitionPart}
use Rattle.bit_stream.specs.declared.definition.DefinitionPart.TheVariants.{Value, End as Last}
use Rattle.bit_stream.specs.Abbreviation.{AdmittedAbbreviation}
use Rattle.bit_stream.specs.Answers.{refuse}
use Rattle.bit_stream.specs.Definition.{field_width, chunk_width, encoding_of, encoding, scalar_by, literal, first_operand, element, element_of, part_by, part, parts, by_part, defined_abbreviation}
use Rattle.bit_stream.specs.Record.{ReadRecord as Values, value_by, code_by, operand, elements, each, counted, tail_by, names_block, unabbreviated, abbreviated}
use Rattle.bit_stream.specs.Scope.{Scope, abbreviation_of}
use Rattle.bit_stream.specs.Entry.{StreamItem, plain, is_top, is_blockinfo, came, entered, enter_sized, enter_wide, enter_named, enter_block, end_block, define_for, define, by_abbreviation, record_by, inside, item}
use Rattle.bit_dump.specs.Walk.Starts.{IsOn}

-- reading from a place in these bits stays in them
pub record On {A : Type 0} (bits : List Bool) (c : Cursor) (f : Found A) : Type 0 where
  pub is : IsOn bits c → IfOk f (λ x. IsOn bits x.1)

none : {A : Type 0} (bits : List Bool) (c : Cursor) (e : BitFault) → let f : Found A = Err e in On bits c f
none bits c e = record { is = λ on. tt }

here : {A : Type 0} (bits : List Bool) (x : A) (c : Cursor) → let f : Found A = Ok (x, c) in On bits c f
here bits x c = record { is = λ on. on }

on_if : {A : Type 0} (bits : List Bool) (c : Cursor) (b : Bool) (x y : Found A) → On bits c x → On bits c y → On bits c (if b then x else y)
on_if bits c true x y h k = h
on_if bits c false x y h k = k

bind : {A B : Type 0} (bits : List Bool) (c : Cursor) (f : Found A) (g : A → Cursor → Found B) → On bits c f → ((x : A) (d : Cursor) → On bits d (g x d)) → On bits c (f >>= g)
bind bits c (Ok x) g h k = record { is = λ on. (k x.0 x.1).is (h.is on) }
bind bits c (Err e) g h k = none bits c e

-- so many bits further
moved : (bits : List Bool) (n : ℕ) (c : Cursor) → IsOn bits c → drop n c.rest ≡ drop (c.at + n) bits
moved bits n c on = ap (λ (l : List Bool). drop n l) on ∙ drop-drop n c.at bits

read_on : (bits : List Bool) (c : Cursor) (r : Read) → On bits c (read_at c r)
read_on bits c (Ok x) = record { is = λ on. moved bits x.1 c on }
read_on bits c (Err e) = record { is = λ on. tt }

fixed_on : (bits : List Bool) (w : ℕ) (c : Cursor) → On bits c (fixed w c)
unfolding fixed
fixed_on bits w c = read_on bits c (fixed_at w c.rest)

vbr_on : (bits : List Bool) (w : ℕ) (c : Cursor) → On bits c (vbr w c)
unfolding vbr
vbr_on bits w c = read_on bits c (vbr_at w c.rest)

align_on : (bits : List Bool) (c : Cursor) → On bits c (align c)
unfolding align
align_on bits c = on_if bits c (nat_lt (length c.rest) (gap c.at)) (Err (record { kind = Truncated; bit = c.at })) (Ok (tt, record { at = c.at + gap c.at; rest = drop (gap c.at) c.rest })) (none bits c _) (record { is = λ on. moved bits (gap c.at) c on })

bytes_on : (bits : List Bool) (n : ℕ) (c : Cursor) → On bits c (bytes n c)
unfolding bytes
bytes_on bits n c = on_if bits c (nat_lt (length c.rest) (8 * n)) (Err (record { kind = Truncated; bit = c.at })) (Ok (bytes_of n c.rest, record { at = c.at + 8 * n; rest = drop (8 * n) c.rest })) (none bits c _) (record { is = λ on. moved bits (8 * n) c on })

blob_on : (bits : List Bool) (c : Cursor) → On bits c (blob c)
unfolding blob
blob_on bits c = bind bits c (vbr 6 c) _ (vbr_on bits 6 c) (λ n d. bind bits d (align d) _ (align_on bits d) (λ _ e.
    bind bits e (bytes n e) _ (bytes_on bits n e) (λ all f. bind bits f (align f) _ (align_on bits f) (λ _ g. here bits _ g))))

-- the parts of a definition

field_width_on : (bits : List Bool) (c : Cursor) → On bits c (field_width c)
unfolding field_width
field_width_on bits c = bind bits c (vbr 5 c) _ (vbr_on bits 5 c) (λ w d. on_if bits d _ _ _ (here bits _ d) (on_if bits d _ _ _ (none bits d _) (here bits _ d)))

chunk_width_on : (bits : List Bool) (c : Cursor) → On bits c (chunk_width c)
unfolding chunk_width
chunk_width_on bits c = bind bits c (vbr 5 c) _ (vbr_on bits 5 c) (λ w d. on_if bits d _ _ _ (here bits _ d) (on_if bits d _ _ _ (none bits d _) (here bits _ d)))

encoding_of_on : (bits : List Bool) (bit n : ℕ) (d : Cursor) → On bits d (encoding_of bit n d)
encoding_of_on bits bit n d =
    on_if bits d (n == 1) _ _ (here bits AsField d) (on_if bits d (n == 2) _ _ (here bits AsChunks d) (on_if bits d (n == 3) _ _ (here bits AsArray d)
    (on_if bits d (n == 4) _ _ (here bits AsLetter d) (on_if bits d (n == 5) _ _ (here bits AsBlob d) (none bits d _)))))

encoding_on : (bits : List Bool) (c : Cursor) → On bits c (encoding c)
unfolding encoding
encoding_on bits c = bind bits c (fixed 3 c) (λ n d. encoding_of c.at n d) (fixed_on bits 3 c) (λ n d. encoding_of_on bits c.at n d)

scalar_by_on : (bits : List Bool) (e : Encoding) (bit : ℕ) (c : Cursor) → On bits c (scalar_by e bit c)
unfolding scalar_by
scalar_by_on bits AsField bit c = field_width_on bits c
scalar_by_on bits AsChunks bit c = chunk_width_on bits c
scalar_by_on bits AsArray bit c = none bits c _
scalar_by_on bits AsLetter bit c = here bits _ c
scalar_by_on bits AsBlob bit c = none bits c _

literal_on : (bits : List Bool) (c : Cursor) → On bits c (literal c)
unfolding literal
literal_on bits c = bind bits c (vbr 8 c) _ (vbr_on bits 8 c) (λ n d. here bits _ d)

first_operand_on : (bits : List Bool) (c : Cursor) → On bits c (first_operand c)
unfolding first_operand
first_operand_on bits c = bind bits c (fixed 1 c) _ (fixed_on bits 1 c) (λ flag d.
    on_if bits d _ _ _ (literal_on bits d) (bind bits d (encoding d) _ (encoding_on bits d) (λ e f. scalar_by_on bits e d.at f)))

element_of_on : (bits : List Bool) (bit : ℕ) (s : ValueSpelling) (c : Cursor) → On bits c (element_of bit s c)
element_of_on bits bit (Known n) c = none bits c _
element_of_on bits bit (Field w) c = here bits _ c
element_of_on bits bit (Chunks w) c = here bits _ c
element_of_on bits bit Letter c = here bits _ c

element_on : (bits : List Bool) (c : Cursor) → On bits c (element c)
unfolding element
element_on bits c = bind bits c (fixed 1 c) _ (fixed_on bits 1 c) (λ flag d.
    on_if bits d _ _ _ (none bits d _) (bind bits d (encoding d) _ (encoding_on bits d) (λ e f.
    bind bits f (scalar_by e d.at f) _ (scalar_by_on bits e d.at f) (λ s g. element_of_on bits f.at s g))))

value_on : (bits : List Bool) (e : Encoding) (bit : ℕ) (c : Cursor) → On bits c (scalar_by e bit c >>= λ s d. Ok (Value s, d))
value_on bits e bit c = bind bits c (scalar_by e bit c) _ (scalar_by_on bits e bit c) (λ s d. here bits _ d)

part_by_on : (bits : List Bool) (e : Encoding) (left bit : ℕ) (c : Cursor) → On bits c (part_by e left bit c)
unfolding part_by
part_by_on bits AsArray left bit c = on_if bits c _ _ _ (bind bits c (element c) _ (element_on bits c) (λ s d. here bits _ d)) (none bits c _)
part_by_on bits AsBlob left bit c = on_if bits c _ _ _ (here bits _ c) (none bits c _)
part_by_on bits AsField left bit c = value_on bits AsField bit c
part_by_on bits AsChunks left bit c = value_on bits AsChunks bit c
part_by_on bits AsLetter left bit c = value_on bits AsLetter bit c

part_on : (bits : List Bool) (left : ℕ) (c : Cursor) → On bits c (part left c)
unfolding part
part_on bits left c = bind bits c (fixed 1 c) _ (fixed_on bits 1 c) (λ flag d.
    on_if bits d _ _ _ (bind bits d (literal d) _ (literal_on bits d) (λ s e. here bits _ e))
    (bind bits d (encoding d) _ (encoding_on bits d) (λ e f. part_by_on bits e left d.at f)))

by_part_on : {A : Type 0} (bits : List Bool) (c : Cursor) (p : DefinitionPart) (more : ValueSpelling → Found A) (done : Tail → Found A) → ((s : ValueSpelling) → On bits c (more s)) → ((t : Tail) → On bits c (done t)) → On bits c (by_part p more done)
by_part_on bits c (Value s) more done h k = h s
by_part_on bits c (Last t) more done h k = k t

parts_on : (bits : List Bool) (n : ℕ) (front : List ValueSpelling) (c : Cursor) → On bits c (parts n front c)
unfolding parts
parts_on bits zero front c = here bits _ c
parts_on bits (suc n) front c = bind bits c (part (suc n) c) _ (part_on bits (suc n) c) (λ p d.
    by_part_on bits d p _ _ (λ s. parts_on bits n (front ++ s ∷ []) d) (λ t. here bits _ d))

abbreviation_on : (bits : List Bool) (c : Cursor) → On bits c (defined_abbreviation c)
unfolding defined_abbreviation
abbreviation_on bits c = bind bits c (vbr 5 c) _ (vbr_on bits 5 c) (λ count d.
    on_if bits d _ _ _ (none bits d _) (bind bits d (first_operand d) _ (first_operand_on bits d) (λ code e.
    bind bits e (parts (count - 1) [] e) _ (parts_on bits (count - 1) [] e) (λ rest f. here bits _ f))))

-- the values of a record

value_by_on : (bits : List Bool) (s : ValueSpelling) (c : Cursor) → On bits c (value_by s c)
unfolding value_by
value_by_on bits (Known n) c = here bits _ c
value_by_on bits (Field w) c = fixed_on bits w c
value_by_on bits (Chunks w) c = vbr_on bits w c
value_by_on bits Letter c = bind bits c (fixed 6 c) _ (fixed_on bits 6 c) (λ n d. here bits _ d)

code_by_on : (bits : List Bool) (s : ValueSpelling) (c : Cursor) → On bits c (code_by s c)
unfolding code_by
code_by_on bits s c = bind bits c (value_by s c) _ (value_by_on bits s c) (λ n d. on_if bits d _ _ _ (none bits d _) (here bits _ d))

operand_on : (bits : List Bool) (b : Bool) (front : List ℕ) (s : ValueSpelling) (c : Cursor) → On bits c (operand b front s c)
unfolding operand
operand_on bits b front s c = bind bits c (value_by s c) _ (value_by_on bits s c) (λ n d. on_if bits d _ _ _ (none bits d _) (here bits _ d))

elements_on : (bits : List Bool) (b : Bool) (s : ValueSpelling) (n : ℕ) (front : List ℕ) (c : Cursor) → On bits c (elements b s n front c)
unfolding elements
elements_on bits b s zero front c = here bits _ c
elements_on bits b s (suc n) front c = bind bits c (operand b front s c) _ (operand_on bits b front s c) (λ more d. elements_on bits b s n more d)

each_on : (bits : List Bool) (b : Bool) (ss : List ValueSpelling) (front : List ℕ) (c : Cursor) → On bits c (each b ss front c)
unfolding each
each_on bits b [] front c = here bits _ c
each_on bits b (s ∷ ss) front c = bind bits c (operand b front s c) _ (operand_on bits b front s c) (λ more d. each_on bits b ss more d)

counted_on : (bits : List Bool) (b : Bool) (s : ValueSpelling) (front : List ℕ) (c : Cursor) → On bits c (counted b s front c)
unfolding counted
counted_on bits b s front c = bind bits c (vbr 6 c) _ (vbr_on bits 6 c) (λ n d. elements_on bits b s n front d)

tail_by_on : (bits : List Bool) (b : Bool) (t : Tail) (front : List ℕ) (c : Cursor) → On bits c (tail_by b t front c)
unfolding tail_by
tail_by_on bits b NoTail front c = here bits _ c
tail_by_on bits b (Elements s) front c = bind bits c (counted b s front c) _ (counted_on bits b s front c) (λ all d. here bits _ d)
tail_by_on bits b Bytes front c = bind bits c (blob c) _ (blob_on bits c) (λ all d. here bits _ d)

unabbreviated_on : (bits : List Bool) (b : Bool) (c : Cursor) → On bits c (unabbreviated b c)
unfolding unabbreviated
unabbreviated_on bits b c = bind bits c (code_by (Chunks 6) c) _ (code_by_on bits (Chunks 6) c) (λ code d.
    bind bits d (counted (names_block b code) (Chunks 6) [] d) _ (counted_on bits (names_block b code) (Chunks 6) [] d) (λ all e. here bits _ e))

abbreviated_on : (bits : List Bool) (b : Bool) (t : AdmittedAbbreviation) (c : Cursor) → On bits c (abbreviated b t c)
unfolding abbreviated
abbreviated_on bits b t c = bind bits c (code_by t.code c) _ (code_by_on bits t.code c) (λ code d.
    bind bits d (each (names_block b code) t.operands [] d) _ (each_on bits (names_block b code) t.operands [] d) (λ front e.
    bind bits e (tail_by (names_block b code) t.tail front e) _ (tail_by_on bits (names_block b code) t.tail front e) (λ all f. here bits _ f)))

-- what stands at a place

enter_sized_on : (bits : List Bool) (s : Scope) (id width : ℕ) (c : Cursor) → On bits c (enter_sized s id width c)
enter_sized_on bits s id width c = bind bits c (align c) (λ _ d. fixed 32 d >>= λ words e. Ok (plain (Some (Block id)) (entered s id width d.at words), e)) (align_on bits c) (λ _ d.
    bind bits d (fixed 32 d) (λ words e. Ok (plain (Some (Block id)) (entered s id width d.at words), e)) (fixed_on bits 32 d) (λ words e. here bits (plain (Some (Block id)) (entered s id width d.at words)) e))

enter_wide_on : (bits : List Bool) (s : Scope) (id bit width : ℕ) (c : Cursor) → On bits c (enter_wide s id bit width c)
enter_wide_on bits s id bit width c = on_if bits c (nat_lt width 2 || nat_lt 32 width) (refuse bit) (enter_sized s id width c) (none bits c _) (enter_sized_on bits s id width c)

enter_named_on : (bits : List Bool) (s : Scope) (bit id : ℕ) (c : Cursor) → On bits c (enter_named s bit id c)
enter_named_on bits s bit id c =
    let deep : Found StreamItem = if length s.around == 16 then Err (record { kind = NestedTooDeep; bit = bit }) else (vbr 4 c >>= λ width d. enter_wide s id c.at width d) in
    on_if bits c (nat_le (2 ^ 32) id) (refuse bit) deep (none bits c _)
    (on_if bits c (length s.around == 16) (Err (record { kind = NestedTooDeep; bit = bit })) (vbr 4 c >>= λ width d. enter_wide s id c.at width d) (none bits c _)
    (bind bits c (vbr 4 c) (λ width d. enter_wide s id c.at width d) (vbr_on bits 4 c) (λ width d. enter_wide_on bits s id c.at width d)))

enter_block_on : (bits : List Bool) (s : Scope) (c : Cursor) → On bits c (enter_block s c)
unfolding enter_block
enter_block_on bits s c = bind bits c (vbr 8 c) (λ id d. enter_named s c.at id d) (vbr_on bits 8 c) (λ id d. enter_named_on bits s c.at id d)

end_block_on : (bits : List Bool) (s : Scope) (c : Cursor) → On bits c (end_block s c)
unfolding end_block
end_block_on bits s c = bind bits c (align c) _ (align_on bits c) (λ _ d. on_if bits d _ _ _ (here bits _ d) (none bits d _))

define_for_on : (bits : List Bool) (id : Option ℕ) (bit : ℕ) (s : Scope) (c : Cursor) → On bits c (define_for id bit s c)
unfolding define_for
define_for_on bits None bit s c = none bits c _
define_for_on bits (Some id) bit s c = bind bits c (defined_abbreviation c) _ (abbreviation_on bits c) (λ t d. here bits _ d)

define_on : (bits : List Bool) (bit : ℕ) (s : Scope) (c : Cursor) → On bits c (define bit s c)
unfolding define
define_on bits bit s c = on_if bits c _ _ _ (define_for_on bits _ bit s c) (bind bits c (defined_abbreviation c) _ (abbreviation_on bits c) (λ t d. here bits _ d))

came_on : (bits : List Bool) (r : Values) (c : Cursor) (s : Result Scope BitFault) → On bits c (came r c s)
came_on bits r c (Ok s) = here bits _ c
came_on bits r c (Err e) = none bits c e

by_abbreviation_on : (bits : List Bool) (o : Option AdmittedAbbreviation) (bit : ℕ) (b : Bool) (c : Cursor) → On bits c (by_abbreviation o bit b c)
unfolding by_abbreviation
by_abbreviation_on bits None bit b c = none bits c _
by_abbreviation_on bits (Some t) bit b c = abbreviated_on bits b t c

record_by_on : (bits : List Bool) (id bit : ℕ) (s : Scope) (c : Cursor) → On bits c (record_by id bit s c)
unfolding record_by
record_by_on bits id bit s c = on_if bits c (id == 3) _ _
    (bind bits c (unabbreviated (is_blockinfo s) c) _ (unabbreviated_on bits (is_blockinfo s) c) (λ r d. came_on bits r d _))
    (bind bits c (by_abbreviation (abbreviation_of s id) bit (is_blockinfo s) c) _ (by_abbreviation_on bits (abbreviation_of s id) bit (is_blockinfo s) c) (λ r d. came_on bits r d _))

inside_on : (bits : List Bool) (id bit : ℕ) (s : Scope) (c : Cursor) → On bits c (inside id bit s c)
unfolding inside
inside_on bits id bit s c =
    on_if bits c (id == 0) (end_block s c) _ (end_block_on bits s c)
    (on_if bits c (id == 1) (if is_blockinfo s then refuse bit else enter_block s c) _ (on_if bits c (is_blockinfo s) (refuse bit) (enter_block s c) (none bits c _) (enter_block_on bits s c))
    (on_if bits c (id == 2) (define bit s c) (record_by id bit s c) (define_on bits bit s c) (record_by_on bits id bit s c)))

item_on : (bits : List Bool) (s : Scope) (c : Cursor) → On bits c (item s c)
unfolding item
item_on bits s c =
    let behind = λ (id : ℕ) (d : Cursor). if is_top s then (if id == 1 then enter_block s d else refuse c.at) else inside id c.at s d in
    let first : Found StreamItem = Ok (plain (Some End) s, c) in
    on_if bits c (is_top s && (length c.rest == 0)) first (fixed s.block.width c >>= behind) (here bits (plain (Some End) s) c) (bind bits c (fixed s.block.width c) behind (fixed_on bits s.block.width c) (λ id d.
    on_if bits d (is_top s) (if id == 1 then enter_block s d else refuse c.at) (inside id c.at s d) (on_if bits d (id == 1) (enter_block s d) (refuse c.at) (enter_block_on bits s d) (none bits d _)) (inside_on bits id c.at s d)))

-- behind what stands there, and behind an abbreviation id

pub is_on : (bits : List Bool) (s : Scope) (c d : Cursor) (i : StreamItem) → IsOn bits c → item s c ≡ Ok (i, d) → IsOn bits d
is_on bits s c d i on h = (rw h at (item_on bits s c)).is on

pub id_is_on : (bits : List Bool) (w n : ℕ) (c d : Cursor) → IsOn bits c → fixed w c ≡ Ok (n, d) → IsOn bits d
id_is_on bits w n c d on h = (rw h at (fixed_on bits w c)).is on
