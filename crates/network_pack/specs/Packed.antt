-- What Pack and Open promise together: what Pack writes opens to the same header and tables (`packed_opens`),
-- and a file that opens packs to the same bytes (`opened_packs`).
use mathlib.Core.{Path.◌≡◌, List.List}
use Rattle.std.specs.Prelude.{false, ℕ, Ok}
use lib.{ListN.length}
use Rattle.network.specs.declared.header.{Header.Header}
use Rattle.network.specs.{Network.Network, Tables.Tables, Tables.network_of}
use Rattle.network.specs.{Decode.decode}
use Rattle.network_open.specs.Open.{too_short, opening}
use Rattle.network_encode.specs.{Encode.encode}
use Rattle.network_pack.specs.Pack.{packing}

-- THE FIRST PROMISE: the file that Pack writes has the length that it answers, and opens to the same header
-- and tables
pub record Reopens (h : Header) (n : Network) (file : List ℕ) (answer : ℕ) : Type 0 where
  pub long : answer ≡ length file
  -- in any lent tables that are long enough
  pub opens : (t : Tables) → too_short h t ≡ false → opening file t ≡ Ok h
  pub tables : decode file ≡ n

-- THE SECOND PROMISE: a file that opens packs to the same bytes, from the tables that Open leaves
pub record Repacks (file : List ℕ) (h : Header) (t : Tables) (room : ℕ) : Type 0 where
  pub answers : packing h t room ≡ Ok (length file)
  pub bytes : encode (network_of h t) ≡ file
