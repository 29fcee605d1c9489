-- What the writing of a network's file from lent tables requires.
use Rattle.std.specs.Prelude.{◌≡◌, ◌^◌, ◌<◌}
use Rattle.network.specs.declared.header.{Header.Header, Layout.Layout}
use Rattle.network.specs.{Limits.WithinLimits, Layout.layout_of, Tables.Tables}
use Rattle.network_open.specs.Open.{Room}

-- a header within the limits, its layout, and tables with room for its counts
pub record Packable (h : Header) (l : Layout) (t : Tables) : Type 0 where
  pub within : WithinLimits h
  pub number_fits : h.number < 2 ^ 32
  pub is : l ≡ layout_of h
  pub room : Room l t
