-- The next entry has a name that is free, and there is room for it.
use Rattle.std.proofs.Common.{◌≡◌, ℕ, zero, suc, ◌+◌, ◌≤◌, ◌⊎◌, inl, inr, nat_lt, Bool, true, false, Option, Some, None, refl, sym, ap, ◌∙◌, subst, arith, ltb-false, le-ltb, if◌then◌else◌}
use Rattle.module_arena.specs.declared.entry.GlobalId.{GlobalId}
use Rattle.module_arena.specs.declared.entry.GlobalId.TheVariants as global
use Rattle.module_arena.specs.declared.fault.CountKind.{CountKind}
use Rattle.module_arena.specs.declared.fault.CountKind.TheVariants as kind
use Rattle.module_arena.specs.Known.{Counts, HasGlobal, AreDistinct, first_excess, counted_aliases}
use Rattle.module_arena.specs.Lists.{Lists, global_name}
use Rattle.module_arena.specs.Module.{Bytes}
use Rattle.item_build.specs.Types.Declarations.{IsFree}
use Rattle.extract_core.specs.Declaring.Declaring.{StandsFor, AreFewer}

-- the name of an entry that is not yet through is free
pub free_name : (a b : Lists) (n : Counts) (e : GlobalId) (name : Bytes) → AreDistinct a → StandsFor a n b → global_name a e ≡ Some name → (HasGlobal n e → ⊥) → IsFree b name
free_name a b n e name distinct stand called later g same =
    let other = stand g name same in
    later (subst (HasGlobal n) (distinct name other.0 e other.2 called) other.1)

-- more entries are through
pub wider : (n m : Counts) → n.variables ≤ m.variables → n.functions ≤ m.functions → n.aliases ≤ m.aliases → (h : GlobalId) → HasGlobal n h → HasGlobal m h
wider n m v f x (global.Variable id) lt = omega (arith, lt, v)
wider n m v f x (global.Function id) lt = omega (arith, lt, f)
wider n m v f x (global.Alias id) lt = omega (arith, lt, x)

pub stands_on : (a b : Lists) (n m : Counts) → n.variables ≤ m.variables → n.functions ≤ m.functions → n.aliases ≤ m.aliases → StandsFor a n b → StandsFor a m b
stands_on a b n m v f x stand g name same = let other = stand g name same in (other.0, wider n m v f x other.0 other.1, other.2)

-- The same where b got one entry more, of the name of the next one of a (e): for each entry g of c that is not in b,
-- global_name c g ≡ Some name gives name ≡ that of e, by slice_get-push and slice_get-here of module_arena.proofs.Found, one case a kind.
pub stands_one_more : (a b c : Lists) (n m : Counts) (e : GlobalId) (called : Bytes) → global_name a e ≡ Some called → HasGlobal m e → StandsFor a n b
    → ((h : GlobalId) → HasGlobal n h → HasGlobal m h)
    → ((g : GlobalId) (name : Bytes) → global_name c g ≡ Some name → (global_name b g ≡ Some name) ⊎ (name ≡ called))
    → StandsFor a m c
stands_one_more a b c n m e called named has stand more either g name same = go (either g name same)
  where
    go : (global_name b g ≡ Some name) ⊎ (name ≡ called) → (h : GlobalId) × HasGlobal m h × (global_name a h ≡ Some name)
    go (inl old) = let other = stand g name old in (other.0, more other.0 other.1, other.2)
    go (inr new) = (e, has, named ∙ ap Some (sym new))

-- ---- counts

-- No count is past its limit. It follows from `first_excess n ≡ None`, and gives it, by cases of its three tests.
pub record AreWithin (n : Counts) : Type 0 where
  pub variables : n.variables ≤ 262144
  pub functions : n.functions ≤ 262144
  pub variables_with : counted_aliases n.aliases n.variables n.functions ≤ 262144

room_with : (v f x l : ℕ) → v ≤ l → f ≤ l → counted_aliases x v f ≤ l → (v + x ≤ l) × (f + x ≤ l)
room_with v f zero l hv hf h = (omega (arith, hv), omega (arith, hf))
room_with v f (suc x) l hv hf h = (omega (arith, h), omega (arith, h))

with_room : (v f x l : ℕ) → v + x ≤ l → f + x ≤ l → counted_aliases x v f ≤ l
with_room v f zero l hv hf = omega arith
with_room v f (suc x) l hv hf = omega (arith, hv, hf)

pub fewer_within : (n now : Counts) → AreWithin n → AreFewer n now → AreWithin now
fewer_within n now within fewer =
    let hv = within.variables in
    let hf = within.functions in
    let room = room_with n.variables n.functions n.aliases 262144 hv hf within.variables_with in
    let rv = room.0 in
    let rf = room.1 in
    let v = fewer.variables in
    let f = fewer.functions in
    let x = fewer.aliases in
    let vx : now.variables + now.aliases ≤ 262144 = omega (arith, rv, v, x) in
    let fx : now.functions + now.aliases ≤ 262144 = omega (arith, rf, f, x) in
    record {
      variables = omega (arith, vx);
      functions = omega (arith, fx);
      variables_with = with_room now.variables now.functions now.aliases 262144 vx fx;
    }

-- so many of a kind
abbrev so_many : CountKind → ℕ → Option (CountKind × ℕ)
so_many kind count = Some (kind, count)

-- what no excess says, and that it is said of what is within
pub within_limits : (n : Counts) → first_excess n ≡ None → AreWithin n
within_limits n none = first (nat_lt 262144 n.variables) refl none
  where
    third : (b : Bool) → nat_lt 262144 (counted_aliases n.aliases n.variables n.functions) ≡ b → n.variables ≤ 262144 → n.functions ≤ 262144
        → (if b then so_many kind.Aliases (counted_aliases n.aliases n.variables n.functions) else None) ≡ None → AreWithin n
    third true e v f none = cc
    third false e v f none = record { variables = v; functions = f; variables_with = ltb-false 262144 _ e }

    second : (b : Bool) → nat_lt 262144 n.functions ≡ b → n.variables ≤ 262144
        → (if b then so_many kind.Functions n.functions else (if nat_lt 262144 (counted_aliases n.aliases n.variables n.functions) then so_many kind.Aliases (counted_aliases n.aliases n.variables n.functions) else None)) ≡ None → AreWithin n
    second true e v none = cc
    second false e v none = third _ refl v (ltb-false 262144 n.functions e) none

    first : (b : Bool) → nat_lt 262144 n.variables ≡ b
        → (if b then so_many kind.Variables n.variables else (if nat_lt 262144 n.functions then so_many kind.Functions n.functions else (if nat_lt 262144 (counted_aliases n.aliases n.variables n.functions) then so_many kind.Aliases (counted_aliases n.aliases n.variables n.functions) else None))) ≡ None → AreWithin n
    first true e none = cc
    first false e none = second _ refl (ltb-false 262144 n.variables e) none

-- fewer are within the limits where more are
pub less_within : (n m : Counts) → n.variables ≤ m.variables → n.functions ≤ m.functions → n.aliases ≤ m.aliases → AreWithin m → AreWithin n
less_within n m v f x within =
    let mv = within.variables in
    let mf = within.functions in
    let room = room_with m.variables m.functions m.aliases 262144 mv mf within.variables_with in
    let rv = room.0 in
    let rf = room.1 in
    record {
      variables = omega (arith, v, mv);
      functions = omega (arith, f, mf);
      variables_with = with_room n.variables n.functions n.aliases 262144 (omega (arith, v, x, rv)) (omega (arith, f, x, rf));
    }

pub no_excess : (n : Counts) → AreWithin n → first_excess n ≡ None
no_excess n within =
    let v = le-ltb 262144 n.variables within.variables in
    let f = le-ltb 262144 n.functions within.functions in
    let x = le-ltb 262144 (counted_aliases n.aliases n.variables n.functions) within.variables_with in
    ap (λ b. if b then so_many kind.Variables n.variables else (if nat_lt 262144 n.functions then so_many kind.Functions n.functions else (if nat_lt 262144 (counted_aliases n.aliases n.variables n.functions) then so_many kind.Aliases (counted_aliases n.aliases n.variables n.functions) else None))) v
    ∙ ap (λ b. if b then so_many kind.Functions n.functions else (if nat_lt 262144 (counted_aliases n.aliases n.variables n.functions) then so_many kind.Aliases (counted_aliases n.aliases n.variables n.functions) else None)) f
    ∙ ap (λ b. if b then so_many kind.Aliases (counted_aliases n.aliases n.variables n.functions) else None) x
