-- What is said of all headers.
use Rattle.std.specs.Prelude.{◌≡◌, ◌<◌, ◌^◌, ℕ, List, MatchResult}
use Rattle.lr_headers.specs.declared.fault.HeaderFault.{HeaderFault}
use Rattle.lr_headers.specs.declared.fields.Stamp.{Stamp}
use Rattle.lr_headers.specs.Headers.{header_of}
use Rattle.lr_headers.specs.Stamps.{IsStampText, stamp_text}
use Rattle.lr_headers.specs.Tiling.{Header, HasHeaderFault, IsHeaderOf}

-- a file proper has at most one header
abbrev pub HeadersAreOne : Type 0
HeadersAreOne = (proper : List ℕ) (header other : Header) → IsHeaderOf proper header → IsHeaderOf proper other
    → header ≡ other

-- a file proper that has a header has no fault
abbrev pub HeadersHaveNoFault : Type 0
HeadersHaveNoFault = (proper : List ℕ) (header : Header) (fault : HeaderFault) → IsHeaderOf proper header
    → HasHeaderFault proper fault → ⊥

-- there is one first fault
abbrev pub HeaderFaultsAreOne : Type 0
HeaderFaultsAreOne = (proper : List ℕ) (fault other : HeaderFault) → HasHeaderFault proper fault
    → HasHeaderFault proper other → fault ≡ other

-- each file proper has a header or a first fault, and `header_of` gives it
abbrev pub HeadersAreRead : Type 0
HeadersAreRead = (proper : List ℕ) → MatchResult (header_of proper) (IsHeaderOf proper) (HasHeaderFault proper)

-- a stamp has a text: there is a date that many days after 1 January 1958
abbrev pub StampsHaveTexts : Type 0
StampsHaveTexts = (stamp : Stamp) → stamp.days < 2 ^ 16 → IsStampText stamp (stamp_text stamp)

-- and no other one
abbrev pub StampTextsAreOne : Type 0
StampTextsAreOne = (stamp : Stamp) (text : List ℕ) → IsStampText stamp text → text ≡ stamp_text stamp
