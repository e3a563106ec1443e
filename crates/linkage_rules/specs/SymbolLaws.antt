-- For `eq` and `hash` of `Symbol` as a key: its equality finds exactly equal symbols, and what a hasher is fed of one.
use Rattle.std.proofs.Common.{◌≡◌, true, ◌++◌, sym, ap, ap₂, subst, nat_eq, bytes_eq}
use Rattle.std.specs.Bool.{Decides}
use Rattle.std.specs.Cmp.Lexicographic.{same_text}
use Rattle.std.specs.Hash as fed
use Rattle.std.specs.Hash.{HashWrites}
use Rattle.std.proofs.lemmas.Cmp.{nat_list_eq_equiv, nat_eq_equiv}
use Rattle.std.proofs.lemmas.Bool.{and_from, and_parts, eqb-true}
use Rattle.module_arena.specs.Module.{Bytes}
use Rattle.linkage_rules.specs.Entries.{Symbol, Shared, Local, same_symbol}

-- a part's number, behind a byte that tells it from none, and the name
abbrev pub symbol_writes : Symbol → HashWrites
symbol_writes (Shared name) = fed.u8 0 ++ fed.slice fed.u8 name
symbol_writes (Local part name) = fed.u8 1 ++ fed.u64 part ++ fed.slice fed.u8 name

-- a name is found equal to itself
pub name_self : (n : Bytes) → bytes_eq n n ≡ true
name_self n = nat_list_eq_equiv.refl n

-- names that are found equal are equal
pub name_exact : (m n : Bytes) → bytes_eq m n ≡ true → m ≡ n
name_exact m n h = same_text m n (sym h)

-- a symbol is found equal to itself
pub symbol_self : (s : Symbol) → same_symbol s s ≡ true
symbol_self (Shared n) = name_self n
symbol_self (Local i n) = and_from _ _ (nat_eq_equiv.refl i) (name_self n)

-- symbols that are found equal are one
pub symbol_exact : (s t : Symbol) → same_symbol s t ≡ true → s ≡ t
symbol_exact (Shared m) (Shared n) h = ap Shared (name_exact m n h)
symbol_exact (Local i m) (Local j n) h =
    let parts = and_parts (nat_eq i j) (bytes_eq m n) h in
    ap₂ Local (eqb-true i j parts.0) (name_exact m n parts.1)
symbol_exact (Shared m) (Local j n) h = cc
symbol_exact (Local i m) (Shared n) h = cc

-- symbols are found equal exactly where they are equal
pub same_symbol_decides : (s t : Symbol) → Decides (same_symbol s t) (s ≡ t)
same_symbol_decides s t = (symbol_exact s t, λ e. subst (λ z. same_symbol s z ≡ true) e (symbol_self s))
