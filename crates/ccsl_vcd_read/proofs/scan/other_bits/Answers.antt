use Rattle.std.proofs.Common.{refl, arith}
use Rattle.std.proofs.lemmas.Simd.{zip2_splat, zip2_of_maps, splat_is_map}
use Rattle.ccsl_vcd_lex.proofs.Lanes.{bits-of}
use Rattle.ccsl_vcd_read.specs.Letters.{is_other}
use Rattle.ccsl_vcd_read.proofs.scan.other_bits.Goals as goal

pub returns : goal.returns
returns c =
    let v = c.args.v in
    let long = c.fits-v.0 in
    bits-of _ is_other v _ (omega arith) c.fits-v.1 (zip2_of_maps _ _ _ v (zip2_splat _ v 16 254 long) (splat_is_map v 16 48 long)) refl
