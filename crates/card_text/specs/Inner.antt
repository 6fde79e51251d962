-- What the functions inside the crate ask of each other. No public contract cites it.
-- Assumes nothing.
use Rattle.std.specs.Prelude.{suc, ◌^◌, Bool, cond, ℤ, pos, negsuc, ltb}
use Rattle.curve.specs.declared.Interval.{Interval}
use Rattle.curve.specs.declared.Rect.{Rect}
use Rattle.curve.specs.Limits.{max_side}

-- whether a number fits the 32 bits of a side
unfoldable pub fits_side : ℤ → Bool
fits_side (pos n) = ltb n (2 ^ 31)
fits_side (negsuc n) = ltb n (2 ^ 31)

-- a number as the reader holds it: itself if it fits, and else one that is out of a side's range too
unfoldable pub limited : ℤ → ℤ
limited z = cond (fits_side z) z (pos (suc max_side))

unfoldable pub limited_ends : Interval → Interval
limited_ends i = record { low = limited i.low; high = limited i.high }

unfoldable pub limited_rect : Rect → Rect
limited_rect p = record { resistance = limited_ends p.resistance; reactance = limited_ends p.reactance }
