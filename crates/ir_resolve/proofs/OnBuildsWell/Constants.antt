-- Where nothing fails that a constant asks for and its types are narrow, an arena can hold it.
use Rattle.std.proofs.Common.{◌≡◌, ℕ, ◌<◌, ◌≤◌, ◌^◌, ◌-◌, nat_le, nat_lt, cond, List, [], ◌++◌, Bool, true, false, None, arith}
use Rattle.std.proofs.Math.Pow.{pow_mono}
use Rattle.std.proofs.lemmas.Bool.{leb-true, ltb-true}
use Rattle.std.proofs.lemmas.Nat.{pow_below}
use Rattle.ir_terminals.specs.declared.values.Integer.{Integer}
use Rattle.ir_phrases.specs.Constants.Tree.{ConstantTree, IntegerConstant, SimpleConstant, AddressConstant, BytesConstant, ListConstant, ElementAddress, Conversion, Arithmetic, ConstantTrees, no_constants, more_constants}
use Rattle.ir_syntax.specs.Tree.{ItemTree}
use Rattle.type_table.specs.Tree.{Tree}
use Rattle.module_arena.specs.Lists.{Lists}
use Rattle.name_rules.specs.declared.fault.ResolveFault.TheVariants as faults
use Rattle.name_rules.specs.Spelled.{spelled_global}
use Rattle.name_rules.specs.Written.{type_in, bits_at}
use Rattle.name_rules.specs.ModuleOf.{structs_in}
use Rattle.name_rules.specs.Demand.{first_refusal, fits}
use Rattle.name_rules.specs.TypeDemands.{has_name, type_demands, constant_demands, constants_demands}
use Rattle.name_rules.specs.Breaks.{known_in}
use Rattle.name_rules.proofs.Judging.{held, both_hold}
use Rattle.item_build.specs.Types.Holding.{HasEntry, CanHold, AllCanHold}
use Rattle.item_build.specs.Buildable.Narrow.{IsNarrowConstant, AreNarrowConstants}
use Rattle.ir_resolve.proofs.OnBuildsWell.Given.{IsGiven, name_contained}
use Rattle.ir_resolve.proofs.OnBuildsWell.Types.{bits_narrow, can_type}

-- an integer that fits has at most 128 bits
fits_below : (bits : ℕ) (written : Integer) → bits ≤ 128 → fits bits written ≡ true → written.magnitude < 2 ^ 128
fits_below bits written narrow h = by written.negative h
  where
    half : 2 ^ (bits - 1) < 2 ^ 128
    half = pow_below (bits - 1) 128 (omega (arith, narrow))

    whole : 2 ^ bits ≤ 2 ^ 128
    whole = pow_mono narrow

    by : (negative : Bool) → cond negative (nat_le written.magnitude (2 ^ (bits - 1))) (nat_lt written.magnitude (2 ^ bits)) ≡ true → written.magnitude < 2 ^ 128
    by true e = let low = leb-true written.magnitude (2 ^ (bits - 1)) e in omega (arith, low, half)
    by false e = let low = ltb-true written.magnitude (2 ^ bits) e in omega (arith, low, whole)

module _ (items : List ItemTree) (entries : Lists) (given : IsGiven items entries) where
  -- a name that is found has an entry
  pub can_name : (name : List ℕ) → has_name (known_in items).globals name ≡ true → HasEntry entries name
  can_name name h = given.entries_there name (name_contained (known_in items).globals name h)

  mutual
    -- a constant that stands at a type of at most 128 bits, of which nothing is asked in vain
    pub can_hold : (t : Tree) (c : ConstantTree) → bits_at t ≤ 128 → IsNarrowConstant c → first_refusal (constant_demands (known_in items) t c) ≡ None → CanHold (structs_in items) entries c
    can_hold t (IntegerConstant written) b n e = fits_below (bits_at t) written b (held (fits (bits_at t) written) (faults.ConstantRange written.place) [] e).0
    can_hold t (SimpleConstant word place) b n e = tt
    can_hold t (AddressConstant name) b n e =
        can_name name.name (held (has_name (known_in items).globals name.name) (faults.UnknownName name.place (spelled_global name.name)) [] e).0
    can_hold t (BytesConstant text) b n e = tt
    can_hold t (ListConstant place round elements) b n e = all_can_hold elements n e
    can_hold t (ElementAddress place flags source operands) b n e =
        let parts = both_hold (type_demands (known_in items) source) (constants_demands (known_in items) operands) e in
        (can_type items given.unbroken source n.0 parts.0, all_can_hold operands n.1 parts.1)
    can_hold t (Conversion place opcode from value to) b n e =
        let known = known_in items in
        let first = both_hold (type_demands known from) (constant_demands known (type_in from) value ++ type_demands known to) e in
        let second = both_hold (constant_demands known (type_in from) value) (type_demands known to) first.1 in
        ((can_type items given.unbroken from n.0.0 first.0, can_hold (type_in from) value (bits_narrow from n.0.0) n.0.1 second.0), can_type items given.unbroken to n.1 second.1)
    can_hold t (Arithmetic place opcode flags left_type left right_type right) b n e =
        let known = known_in items in
        let first = both_hold (type_demands known left_type) (constant_demands known (type_in left_type) left ++ (type_demands known right_type ++ constant_demands known (type_in right_type) right)) e in
        let second = both_hold (constant_demands known (type_in left_type) left) (type_demands known right_type ++ constant_demands known (type_in right_type) right) first.1 in
        let third = both_hold (type_demands known right_type) (constant_demands known (type_in right_type) right) second.1 in (
          (can_type items given.unbroken left_type n.0.0 first.0, can_hold (type_in left_type) left (bits_narrow left_type n.0.0) n.0.1 second.0),
          (can_type items given.unbroken right_type n.1.0 third.0, can_hold (type_in right_type) right (bits_narrow right_type n.1.0) n.1.1 third.1),
        )

    -- constants, each behind its type
    all_can_hold : (cs : ConstantTrees) → AreNarrowConstants cs → first_refusal (constants_demands (known_in items) cs) ≡ None → AllCanHold (structs_in items) entries cs
    all_can_hold no_constants n e = tt
    all_can_hold (more_constants ty c cs) n e =
        let known = known_in items in
        let first = both_hold (type_demands known ty) (constant_demands known (type_in ty) c ++ constants_demands known cs) e in
        let second = both_hold (constant_demands known (type_in ty) c) (constants_demands known cs) first.1 in
        ((can_type items given.unbroken ty n.0.0 first.0, can_hold (type_in ty) c (bits_narrow ty n.0.0) n.0.1 second.0), all_can_hold cs n.1 second.1)
