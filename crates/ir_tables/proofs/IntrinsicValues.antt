-- Every value of `Intrinsic` stands in the list of its table, which is looked up by its words and by its codes.
use Rattle.std.proofs.Common.{refl, bytes_eq, nat_eq}
use Rattle.ir_tables.specs.declared.intrinsic.Intrinsic.TheVariants.{Ctpop, Bswap, Bitreverse, Ctlz, Cttz, Abs, Smin, Smax, Umin, Umax, SaddSat, UaddSat, SsubSat, UsubSat, SaddWithOverflow, UaddWithOverflow, SsubWithOverflow, UsubWithOverflow, SmulWithOverflow, UmulWithOverflow, Fshl, Fshr}
use Rattle.ir_tables.specs.Intrinsic.{intrinsic_word, intrinsic_code, intrinsics}
use Rattle.ir_tables.proofs.Tables.{IsListed, IsKeyed, keyed_by_word, keyed_by_code}

pub intrinsic_listed : IsListed intrinsics
intrinsic_listed Ctpop = (0, refl)
intrinsic_listed Bswap = (1, refl)
intrinsic_listed Bitreverse = (2, refl)
intrinsic_listed Ctlz = (3, refl)
intrinsic_listed Cttz = (4, refl)
intrinsic_listed Abs = (5, refl)
intrinsic_listed Smin = (6, refl)
intrinsic_listed Smax = (7, refl)
intrinsic_listed Umin = (8, refl)
intrinsic_listed Umax = (9, refl)
intrinsic_listed SaddSat = (10, refl)
intrinsic_listed UaddSat = (11, refl)
intrinsic_listed SsubSat = (12, refl)
intrinsic_listed UsubSat = (13, refl)
intrinsic_listed SaddWithOverflow = (14, refl)
intrinsic_listed UaddWithOverflow = (15, refl)
intrinsic_listed SsubWithOverflow = (16, refl)
intrinsic_listed UsubWithOverflow = (17, refl)
intrinsic_listed SmulWithOverflow = (18, refl)
intrinsic_listed UmulWithOverflow = (19, refl)
intrinsic_listed Fshl = (20, refl)
intrinsic_listed Fshr = (21, refl)

pub intrinsic_words : IsKeyed bytes_eq intrinsic_word intrinsics
intrinsic_words = keyed_by_word intrinsic_word intrinsics intrinsic_listed

pub intrinsic_codes : IsKeyed nat_eq intrinsic_code intrinsics
intrinsic_codes = keyed_by_code intrinsic_code intrinsics intrinsic_listed
