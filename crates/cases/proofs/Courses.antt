-- The courses of the premises, by computation.
use Rattle.std.proofs.Common.{List, [], ◌∷◌, ℤ, pos, refl, lit≤}
use Rattle.std.proofs.lemmas.List.{append-nil}
use Rattle.relay.specs.Ways.{new, begun}
use Rattle.counter.specs.Stretch.{Stretch}
use Rattle.relay.specs.Truth.{none, also}
use Rattle.relay.proofs.Stand.{run-way}
use Rattle.kinds.specs.Base.{base_kinds}
use Rattle.cases.specs.Premises.{Course, sure_calls, level_calls, flicker_calls, steady_calls, PremisesMet}

-- true inputs, the newest first: what the codes stand for, in grains
abbrev sure-course : Course sure_calls
sure-course = record {
  file = _;
  truths = (pos 8519680 ∷ []) ∷ (pos 8519680 ∷ []) ∷ (pos 0 ∷ []) ∷ (pos 8519680 ∷ []) ∷ (pos 8519680 ∷ []) ∷ [];
  way = run-way base_kinds begun sure_calls new;
  loaded = refl;
  chosen = also (lit≤ tt, tt) (also (lit≤ tt, tt) (also (lit≤ tt, tt) (also (lit≤ tt, tt) (also (lit≤ tt, tt) none))));
}

abbrev level-course : Course level_calls
level-course = record {
  file = _;
  truths = (pos 8388608 ∷ []) ∷ (pos 8388608 ∷ []) ∷ (pos 8388608 ∷ []) ∷ [];
  way = run-way base_kinds begun level_calls new;
  loaded = refl;
  chosen = also (lit≤ tt, tt) (also (lit≤ tt, tt) (also (lit≤ tt, tt) none));
}

abbrev flicker-course : Course flicker_calls
flicker-course = record {
  file = _;
  truths = (pos 8454144 ∷ []) ∷ (pos 8519680 ∷ []) ∷ (pos 8454144 ∷ []) ∷ (pos 8519680 ∷ []) ∷ (pos 8454144 ∷ []) ∷ (pos 8519680 ∷ []) ∷ [];
  way = run-way base_kinds begun flicker_calls new;
  loaded = refl;
  chosen = also (lit≤ tt, tt) (also (lit≤ tt, tt) (also (lit≤ tt, tt) (also (lit≤ tt, tt) (also (lit≤ tt, tt) (also (lit≤ tt, tt) none)))));
}

abbrev steady-course : Course steady_calls
steady-course = record {
  file = _;
  truths = (pos 8585216 ∷ []) ∷ (pos 8650752 ∷ []) ∷ (pos 8585216 ∷ []) ∷ [];
  way = run-way base_kinds begun steady_calls new;
  loaded = refl;
  chosen = also (lit≤ tt, tt) (also (lit≤ tt, tt) (also (lit≤ tt, tt) none));
}

-- all frames as one stretch
abbrev whole : (all : List (List ℤ)) → Stretch all
whole all = record { later = []; run = all; earlier = []; whole = append-nil all }

pub met : PremisesMet
met = record {
  must = record { course = sure-course; stretch = whole sure-course.truths; weighs = lit≤ tt };
  may = record { course = level-course; trip = refl; none_sure = refl };
  flicker = record {
    flickering = flicker-course;
    none_under = refl;
    told = refl;
    none_sure = refl;
    margin = refl;
    steady = record { course = steady-course; stretch = whole steady-course.truths; weighs = lit≤ tt };
    all_sure = refl;
    trips = refl;
  };
}
