-- A proof of every statement on the claims page, specs/Claims.antt.
use Rattle.std.proofs.Common.{ℕ, List, refl, add_assoc, arith}
use Rattle.frame.proofs.RoundTrips as RoundTrips
use Rattle.frame.specs.Bytes.{byte, number, double, part}
use Rattle.frame.specs.Claims.{Words, RoundTrip}
use Rattle.frame.specs.Frames.{sum}

pub words : (bytes : List ℕ) (i n : ℕ) → Words bytes i n
unfolding byte number double part sum
words bytes i n =
    record {
      byte_at = refl;
      number_at = refl;
      double_at = simp add_assoc (omega arith);
      part_from = refl;
      sum_of_none = refl;
      sum_of_more = refl;
    }

pub round_trip : RoundTrip
round_trip = RoundTrips.round_trip
