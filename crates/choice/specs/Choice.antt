-- The choice by a test: what every definition is written with.
use Rattle.std.specs.Prelude.{Bool, true, false}

-- the first where the test holds, the second where it fails
abbrev pub pick {ℓ} : {A : Type ℓ} → Bool → A → A → A
pick true a b = a
pick false a b = b

-- both tests hold; the second is looked at only where the first holds
abbrev pub both : Bool → Bool → Bool
both a b = pick a b false

-- one of the tests holds
abbrev pub either : Bool → Bool → Bool
either a b = pick a true b
