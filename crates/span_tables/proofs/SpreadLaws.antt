-- Lemmas about the number of spreads.
use Rattle.std.proofs.Common.{ℕ, ◌*◌, ◌/◌, ◌≤◌, min, List, [], ◌∷◌, arith}
use Rattle.std.proofs.Math.Nat.{div-mul-le_self, le-div_iff_mul-le, mul-le-mul_right, min-le_left, min-le_right}
use Rattle.span_tables.specs.Sides.{Room, spreads_formed}
use Rattle.span_tables.specs.Laws.{FitsRooms, HaveRatios}

-- fewer spreads fit too
Fits_fewer : (n m : ℕ) (rooms : List Room) → n ≤ m → FitsRooms m rooms → FitsRooms n rooms
Fits_fewer n m [] le fits = tt
Fits_fewer n m (r ∷ rs) le fits =
    let less : n * r.ratio ≤ m * r.ratio = mul-le-mul_right r.ratio le in
    (omega (arith, less, fits.0), Fits_fewer n m rs le fits.1)

-- the number of spreads formed fits
pub formed_fit : (r : Room) (rs : List Room) → FitsRooms (spreads_formed (r ∷ rs)) (r ∷ rs)
formed_fit r [] = (div-mul-le_self r.side r.ratio, tt)
formed_fit r (s ∷ rs) =
    let n = spreads_formed (s ∷ rs) in
    let less : min (r.side / r.ratio) n * r.ratio ≤ (r.side / r.ratio) * r.ratio =
    mul-le-mul_right r.ratio (min-le_left (r.side / r.ratio) n) in
    (omega (arith, less, div-mul-le_self r.side r.ratio), Fits_fewer _ n (s ∷ rs) (min-le_right (r.side / r.ratio) n) (formed_fit s rs))

-- no greater number of spreads fits
pub formed_greatest : (r : Room) (rs : List Room) → HaveRatios (r ∷ rs) → (m : ℕ) → FitsRooms m (r ∷ rs)
    → m ≤ spreads_formed (r ∷ rs)
formed_greatest r [] ratios m fits = (le-div_iff_mul-le ratios.0).1 fits.0
formed_greatest r (s ∷ rs) ratios m fits =
    let first : m ≤ r.side / r.ratio = (le-div_iff_mul-le ratios.0).1 fits.0 in
    let others = formed_greatest s rs ratios.1 m fits.1 in
    omega (arith, first, others)
