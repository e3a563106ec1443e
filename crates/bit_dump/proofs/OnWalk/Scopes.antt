-- The open blocks of a stream, by where their abbreviations are defined.
use Rattle.std.proofs.Common.{◌≡◌, ℕ, ◌-◌, ◌<◌, ◌≤◌, Bool, true, false, List, [], ◌∷◌, ◌++◌, length, Option, Some, None, map, refl, sym, ap, ◌∙◌}
use Rattle.std.specs.Prelude.{option_map, slice_get, nat_lt}
use Rattle.std.specs.Ordering.{nat_cmp}
use Rattle.std.specs.Map.{remove_entry}
use Rattle.std.specs.BTreeMap.{is_at, insert_entry}
use Rattle.std.proofs.lemmas.Bool.{lt-ltb, le-ltb}
use Rattle.std.proofs.lemmas.List.{map_push}
use Rattle.bit_stream.specs.Abbreviation.{AdmittedAbbreviation}
use Rattle.bit_stream.specs.Scope.{given_to, given_here, abbreviation_of}
use Rattle.bit_stream.specs.Entry.{given_for}
use Rattle.bit_tree.specs.Starts.Given.{starts_of, with_start}
use Rattle.bit_dump.specs.Walk.Starts.{abbreviation_at, StartFrame, frame_at, row_at, Opened, opened_at, with_scope}
use Rattle.bit_dump.proofs.OnWalk.Definitions.{given_at, remove_at, insert_at, get_at, length_at}

-- how many abbreviations were given to a block id
pub given_count : (o : Opened) (bits : List Bool) (block : StartFrame) (around : List StartFrame) (rows : List (ℕ × List ℕ)) (id : ℕ) → opened_at bits block around rows ≡ o → length (starts_of rows id) ≡ length (given_to o.scope.given id)
given_count o bits block around rows id is = rw (← is, given_at bits rows id) (sym (length_at (abbreviation_at bits) (starts_of rows id)))

-- one more for a block id
pub give_is : (o : Opened) (bits : List Bool) (block : StartFrame) (around : List StartFrame) (rows later : List (ℕ × List ℕ)) (id start : ℕ) → opened_at bits block around rows ≡ o → later ≡ with_start rows id start
    → opened_at bits block around later ≡ with_scope o (given_for o.scope id (abbreviation_at o.bits start))
give_is o bits block around rows later id start is more =
    let t = abbreviation_at bits start in
    let list : map (abbreviation_at bits) (starts_of rows id ++ start ∷ []) ≡ given_to (map (row_at bits) rows) id ++ t ∷ [] =
    map_push (abbreviation_at bits) (starts_of rows id) start ∙ ap (λ (l : List AdmittedAbbreviation). l ++ t ∷ []) (sym (given_at bits rows id)) in
    let others = remove_at bits (is_at (nat_cmp id)) rows in
    let table : map (row_at bits) later ≡ insert_entry nat_cmp (remove_entry (is_at (nat_cmp id)) (map (row_at bits) rows)) id (given_to (map (row_at bits) rows) id ++ t ∷ []) =
    ap (map (row_at bits)) more ∙ (insert_at bits (remove_entry (is_at (nat_cmp id)) rows) id (starts_of rows id ++ start ∷ []) ∙ (λ i. insert_entry nat_cmp (others i) id (list i))) in
    rw (← is) (ap (λ (t : List (ℕ × List AdmittedAbbreviation)). with_scope (opened_at bits block around rows) (record { block = frame_at bits block; around = map (frame_at bits) around; given = t })) table)

-- an abbreviation that was given to a block id
pub given_there : (o : Opened) (bits : List Bool) (block : StartFrame) (around : List StartFrame) (rows : List (ℕ × List ℕ)) (id index : ℕ) → opened_at bits block around rows ≡ o → block.id ≡ Some id
    → option_map (abbreviation_at o.bits) (slice_get (starts_of rows id) index) ≡ slice_get (given_here o.scope) index
given_there o bits block around rows id index is here = rw (← is, here, given_at bits rows id) (sym (get_at (abbreviation_at bits) (starts_of rows id) index))

pub top_there : (o : Opened) (bits : List Bool) (block : StartFrame) (around : List StartFrame) (rows : List (ℕ × List ℕ)) (index : ℕ) → opened_at bits block around rows ≡ o → block.id ≡ None → option_map (abbreviation_at o.bits) None ≡ slice_get (given_here o.scope) index
top_there o bits block around rows index is here = rw (← is, here) refl

-- the abbreviation of an id, among those that were given and among the block's own
pub first_there : (o : Opened) (bits : List Bool) (block : StartFrame) (around : List StartFrame) (rows : List (ℕ × List ℕ)) (id : ℕ) (found : Option ℕ) → opened_at bits block around rows ≡ o → id - 4 < block.given
    → option_map (abbreviation_at o.bits) found ≡ slice_get (given_here o.scope) (id - 4) → option_map (abbreviation_at o.bits) found ≡ abbreviation_of o.scope id
first_there o bits block around rows id found is near there =
    let test : nat_lt (id - 4) o.scope.block.given ≡ true = rw (← is) (lt-ltb (id - 4) block.given near) in
    rw test there

pub own_there : (o : Opened) (bits : List Bool) (block : StartFrame) (around : List StartFrame) (rows : List (ℕ × List ℕ)) (id : ℕ) → opened_at bits block around rows ≡ o → block.given ≤ id - 4
    → option_map (abbreviation_at o.bits) (slice_get block.own (id - 4 - block.given)) ≡ abbreviation_of o.scope id
own_there o bits block around rows id is far =
    let test : nat_lt (id - 4) block.given ≡ false = le-ltb (id - 4) block.given far in
    rw (← is, test) (sym (get_at (abbreviation_at bits) block.own (id - 4 - block.given)))
