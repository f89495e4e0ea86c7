-- The 26 parties: boxes 0 to 9 and tablets 0 to 15, whose party numbers begin at 256.
use Rattle.std.specs.Prelude.{ℕ, ◌+◌, ◌-◌, Bool, cond, ◌&&◌, ◌||◌, nat_le, nat_lt}

-- how many boxes a pit can have
abbrev pub boxes : ℕ
boxes = 10

-- the party number of tablet 0
abbrev pub first_tablet : ℕ
first_tablet = 256

abbrev pub tablets : ℕ
tablets = 16

abbrev pub is_tablet : ℕ → Bool
is_tablet party = nat_le first_tablet party && nat_lt party (first_tablet + tablets)

-- is it one of the 26?
abbrev pub known_party : ℕ → Bool
known_party party = nat_lt party boxes || is_tablet party

-- where the party stands among the 26: the boxes first, then the tablets
abbrev pub place_of : ℕ → ℕ
place_of party = cond (nat_lt party boxes) party (boxes + (party - first_tablet))
