-- The part of a moment that a component shows.

pub data Kind : Type 0 where
  Date : Kind
  Time : Kind
  Offset : Kind
  -- An instant: all three.
  Instant : Kind
  Nothing : Kind
