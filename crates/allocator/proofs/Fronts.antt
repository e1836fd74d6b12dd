-- The front of a buffer that is long enough has the length that it is cut to.
use lib.Seq.{length-take-le}

pub ruleset fronts = (length-take-le)
