-- Constants that are in range at every type.
use Rattle.std.proofs.Common.{◌≡◌, true, refl}
use Rattle.type_table.specs.Tree.{Tree, int, ptr, void, array, struct, named}
use Rattle.module_arena.specs.Module.{Bytes, Constant, Integer, Truth, Null, Undef, Poison, ZeroInitializer, Address, ByteString, Aggregate, ElementAddress, Cast, Binary}
use Rattle.module_arena.specs.Names as arena
use Rattle.module_arena.specs.WellFormed.{is_in_range}

-- no number, truth or bytes
abbrev pub IsPlain : Constant → Type 0
IsPlain (Integer n) = ⊥
IsPlain (Truth b) = ⊥
IsPlain (ByteString bytes) = ⊥
IsPlain Null = Unit {0}
IsPlain Undef = Unit {0}
IsPlain Poison = Unit {0}
IsPlain ZeroInitializer = Unit {0}
IsPlain (Address g) = Unit {0}
IsPlain (Aggregate round cs) = Unit {0}
IsPlain (ElementAddress f s cs) = Unit {0}
IsPlain (Cast o from c to) = Unit {0}
IsPlain (Binary o f a x b y) = Unit {0}

pub range_plain : (t : Tree) (c : Constant) → IsPlain c → is_in_range t c ≡ true
range_plain (int width) (Integer k) h = absurd h
range_plain (int width) (Truth b) h = absurd h
range_plain (int width) (ByteString bytes) h = absurd h
range_plain (int width) Null h = refl
range_plain (int width) Undef h = refl
range_plain (int width) Poison h = refl
range_plain (int width) ZeroInitializer h = refl
range_plain (int width) (Address g) h = refl
range_plain (int width) (Aggregate round cs) h = refl
range_plain (int width) (ElementAddress f s cs) h = refl
range_plain (int width) (Cast o from c to) h = refl
range_plain (int width) (Binary o f a x b y) h = refl
range_plain ptr (Integer k) h = absurd h
range_plain ptr (Truth b) h = absurd h
range_plain ptr (ByteString bytes) h = absurd h
range_plain ptr Null h = refl
range_plain ptr Undef h = refl
range_plain ptr Poison h = refl
range_plain ptr ZeroInitializer h = refl
range_plain ptr (Address g) h = refl
range_plain ptr (Aggregate round cs) h = refl
range_plain ptr (ElementAddress f s cs) h = refl
range_plain ptr (Cast o from c to) h = refl
range_plain ptr (Binary o f a x b y) h = refl
range_plain void (Integer k) h = absurd h
range_plain void (Truth b) h = absurd h
range_plain void (ByteString bytes) h = absurd h
range_plain void Null h = refl
range_plain void Undef h = refl
range_plain void Poison h = refl
range_plain void ZeroInitializer h = refl
range_plain void (Address g) h = refl
range_plain void (Aggregate round cs) h = refl
range_plain void (ElementAddress f s cs) h = refl
range_plain void (Cast o from c to) h = refl
range_plain void (Binary o f a x b y) h = refl
range_plain (array n t) (Integer k) h = absurd h
range_plain (array n t) (Truth b) h = absurd h
range_plain (array n t) (ByteString bytes) h = absurd h
range_plain (array n t) Null h = refl
range_plain (array n t) Undef h = refl
range_plain (array n t) Poison h = refl
range_plain (array n t) ZeroInitializer h = refl
range_plain (array n t) (Address g) h = refl
range_plain (array n t) (Aggregate round cs) h = refl
range_plain (array n t) (ElementAddress f s cs) h = refl
range_plain (array n t) (Cast o from c to) h = refl
range_plain (array n t) (Binary o f a x b y) h = refl
range_plain (struct packed ts) (Integer k) h = absurd h
range_plain (struct packed ts) (Truth b) h = absurd h
range_plain (struct packed ts) (ByteString bytes) h = absurd h
range_plain (struct packed ts) Null h = refl
range_plain (struct packed ts) Undef h = refl
range_plain (struct packed ts) Poison h = refl
range_plain (struct packed ts) ZeroInitializer h = refl
range_plain (struct packed ts) (Address g) h = refl
range_plain (struct packed ts) (Aggregate round cs) h = refl
range_plain (struct packed ts) (ElementAddress f s cs) h = refl
range_plain (struct packed ts) (Cast o from c to) h = refl
range_plain (struct packed ts) (Binary o f a x b y) h = refl
range_plain (named name) (Integer k) h = absurd h
range_plain (named name) (Truth b) h = absurd h
range_plain (named name) (ByteString bytes) h = absurd h
range_plain (named name) Null h = refl
range_plain (named name) Undef h = refl
range_plain (named name) Poison h = refl
range_plain (named name) ZeroInitializer h = refl
range_plain (named name) (Address g) h = refl
range_plain (named name) (Aggregate round cs) h = refl
range_plain (named name) (ElementAddress f s cs) h = refl
range_plain (named name) (Cast o from c to) h = refl
range_plain (named name) (Binary o f a x b y) h = refl

pub range_bytes : (t : Tree) (bytes : Bytes) → arena.are_bytes bytes ≡ true → is_in_range t (ByteString bytes) ≡ true
range_bytes (int width) bytes h = h
range_bytes ptr bytes h = h
range_bytes void bytes h = h
range_bytes (array n t) bytes h = h
range_bytes (struct packed ts) bytes h = h
range_bytes (named name) bytes h = h
