-- The check-ins of a function, by what they follow.

pub data CheckInKind : Type 0 where
  -- at the function's entry
  Entry : CheckInKind
  -- after the return of a call, a transaction's begin, its end, an update point
  Call : CheckInKind
  Begin : CheckInKind
  End : CheckInKind
  Update : CheckInKind
